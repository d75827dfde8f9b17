-- Output links and tallies, in the work area w of a tray with letters s and ends es. Its n members stand in w, and the nodes of their letters
-- have the numbers up to nodes.
--   longest_owned ss M t      == the longest ending of t that is a member's whole string, empty if there is none
--   OutOf ss M v r           == r is the output link of node v: the node of the longest proper ending of its string that is a member's whole
--                               string, which is the next such node on its failure path; 0 for none
--   TallyOf ss M v r         == r is the tally of node v: how many members end its string
--   Owning .. v              == and v is the number of a node with a letter
--   Telling .. w v           == the output links and tallies of the nodes below v are known too
--   Tallied ss M v r         == r is the tally of node v, and fits a cell
--   Told .. w                == those of all nodes
--   OutputsFilled .. w w'    == they are known in w', which has the cells of w below the tables OUT and TALLY
use Rattle.std.specs.Prelude.{◌≡◌, List, [], ◌∷◌, ℕ, ◌<◌, length}
use Rattle.words.specs.Lists.{tail_of}
use Rattle.trays.specs.Slips.{slips_of}
use Rattle.matching.specs.Steps.Nodes.{nodes_of, string, IsNode, Num}
use Rattle.matching.specs.Occurrences.{ending_of}
use Rattle.layout.specs.Layout.{OUT, TALLY}
use Rattle.layout.specs.Tables.{cell, members, patterns, owners}
use Rattle.layout.specs.Numbered.{patterns_in, Headed, SameBelow}

abbrev pub longest_owned : List (List ℕ) → List ℕ → List ℕ → List ℕ
longest_owned ss M [] = []
longest_owned ss M (x ∷ xs) = elim (owners ss M (x ∷ xs)) [ [] ↦ longest_owned ss M xs | i ∷ is ↦ x ∷ xs ]

abbrev pub OutOf : List (List ℕ) → List ℕ → ℕ → ℕ → Type 0
OutOf ss M v r = IsNode (patterns ss M) r (longest_owned ss M (tail_of (string (patterns ss M) v)))

abbrev pub TallyOf : List (List ℕ) → List ℕ → ℕ → ℕ → Type 0
TallyOf ss M v r = r ≡ length (ending_of ss M (string (patterns ss M) v))

-- OUT, TALLY
abbrev pub OutIs : List (List ℕ) → List ℕ → (ℕ → ℕ) → Type 0
OutIs ss M out = (v : ℕ) → Num (patterns ss M) v → OutOf ss M v (out v)

abbrev pub TallyIs : List (List ℕ) → List ℕ → (ℕ → ℕ) → Type 0
TallyIs ss M tally = (v : ℕ) → v < length (nodes_of (patterns ss M)) → TallyOf ss M v (tally v)

pub record Owning (s es : List ℕ) (n nodes : ℕ) (w : List ℕ) (v : ℕ) : Type 0 where
  pub headed : Headed s es n nodes w
  pub node : Num (patterns_in s es n w) v

pub record Telling (s es : List ℕ) (n nodes : ℕ) (w : List ℕ) (v : ℕ) : Type 0 where
  pub owning : Owning s es n nodes w v
  pub outs : (u : ℕ) → Num (patterns_in s es n w) u → u < v → OutOf (slips_of s es) (members w n) u (cell w OUT u)
  pub tallies : (u : ℕ) → u < v → TallyOf (slips_of s es) (members w n) u (cell w TALLY u)

pub record Tallied (ss : List (List ℕ)) (M : List ℕ) (v r : ℕ) : Type 0 where
  pub is : TallyOf ss M v r
  pub small : r < 65536

pub record Told (s es : List ℕ) (n nodes : ℕ) (w : List ℕ) : Type 0 where
  pub headed : Headed s es n nodes w
  pub outs : OutIs (slips_of s es) (members w n) (cell w OUT)
  pub tallies : TallyIs (slips_of s es) (members w n) (cell w TALLY)

pub record OutputsFilled (s es : List ℕ) (n nodes : ℕ) (w w' : List ℕ) : Type 0 where
  pub told : Told s es n nodes w'
  pub below : SameBelow OUT w w'
