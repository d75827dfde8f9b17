-- What the functions that tell the kept members ask and leave, in the work area w of a tray with letters s and ends es. Its n members stand in
-- w, and the nodes of their letters have the numbers up to nodes. Each leaves the cells below its own tables as they were.
--   MarkIs ps fail mark        == mark is 1 exactly at the nodes that are the failure link of a node
--   Marked                     == HEAD, TWIN and MARK are filled
--   Judged .. i                == these are filled, and i is one of the members
--   KeptFound .. k ..          == the k kept members stand in KEPT
--   KeptFilled .. k ..         == they were found there, HEAD, TWIN and MARK being filled; KeptTold: these were filled too
use Rattle.std.specs.Prelude.{◌≡◌, List, ℕ, ◌≤◌, ◌<◌, length}
use Rattle.words.specs.Steps.Members.{In}
use Rattle.trays.specs.Limits.{max_slips}
use Rattle.trays.specs.Slips.{slips_of}
use Rattle.trays.specs.Aside.{kept}
use Rattle.matching.specs.Steps.Nodes.{nodes_of, Num}
use Rattle.layout.specs.Layout.{FAIL, HEAD, MARK, KEPT}
use Rattle.layout.specs.Tables.{cell, members}
use Rattle.layout.specs.Numbered.{patterns_in, Automaton, SameBelow, Headed}
use Rattle.layout.specs.Staging.{kept_in}

-- MARK
pub record MarkIs (ps : List (List ℕ)) (fail mark : ℕ → ℕ) : Type 0 where
  pub into : (v : ℕ) → Num ps v → mark (fail v) ≡ 1
  pub back : (u : ℕ) → u < length (nodes_of ps) → mark u ≡ 1 → (v : ℕ) × Num ps v × (fail v ≡ u)

pub record Marked (s es : List ℕ) (n nodes : ℕ) (w : List ℕ) : Type 0 where
  pub headed : Headed s es n nodes w
  pub marks : MarkIs (patterns_in s es n w) (cell w FAIL) (cell w MARK)

pub record MarksFilled (s es : List ℕ) (n nodes : ℕ) (w w' : List ℕ) : Type 0 where
  pub marked : Marked s es n nodes w'
  pub below : SameBelow MARK w w'

-- KEPT
pub record Judged (s es : List ℕ) (n nodes : ℕ) (w : List ℕ) (i : ℕ) : Type 0 where
  pub marked : Marked s es n nodes w
  pub member : In i (members w n)
  pub few : i ≤ max_slips

pub record KeptFound (s es : List ℕ) (n k nodes : ℕ) (w : List ℕ) : Type 0 where
  pub automaton : Automaton s es n nodes w
  pub few_kept : k ≤ max_slips
  pub kept_are : kept_in w k ≡ kept (slips_of s es) (members w n)

pub record KeptFilled (s es : List ℕ) (n nodes : ℕ) (w : List ℕ) (k : ℕ) (w' : List ℕ) : Type 0 where
  pub staged : KeptFound s es n k nodes w'
  pub all : k ≡ length (kept (slips_of s es) (members w n))
  pub below : SameBelow KEPT w w'

pub record KeptTold (s es : List ℕ) (n nodes : ℕ) (w : List ℕ) (k : ℕ) (w' : List ℕ) : Type 0 where
  pub staged : KeptFound s es n k nodes w'
  pub all : k ≡ length (kept (slips_of s es) (members w n))
  pub below : SameBelow HEAD w w'
