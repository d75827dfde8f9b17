-- What the work area w of a tray with letters s and ends es holds, one stage after another; the n members are those of its table.
--   patterns_in s es n w         == the letters of the members
--   Numbered s es n nodes w     == the tray is accepted, and the nodes of the members' letters are numbered up to nodes
--   Branched s es n nodes w     == and the children of each node are known
--   Automaton s es n nodes w    == and those of the first nodes by letters, and the failure link of each node
--   Headed s es n nodes w       == and the members of each node's letters
--   SameBelow b w w'                 == w' is as long as w, and has its cells below b
use Rattle.std.specs.Prelude.{◌≡◌, List, ℕ, suc, ◌≤◌, ◌<◌, length, get_or}
use Rattle.words.specs.Steps.Members.{In, Asc}
use Rattle.trays.specs.Limits.{max_slips, max_slip, max_letters, work_need}
use Rattle.trays.specs.Slips.{slips_of}
use Rattle.trays.specs.Faults.{tray_fault}
use Rattle.matching.specs.Steps.Nodes.{nodes_of}
use Rattle.layout.specs.Layout.{AT, OWN, LEVEL, KID, NEAR, FAIL, HEAD, TWIN}
use Rattle.layout.specs.Tables.{cell, members, patterns, AtIs, OwnIs, LevelIs, KidIs, NearIs, FailIs, HeadIs}

abbrev pub patterns_in : List ℕ → List ℕ → ℕ → List ℕ → List (List ℕ)
patterns_in s es n w = patterns (slips_of s es) (members w n)

pub record Numbered (s es : List ℕ) (n nodes : ℕ) (w : List ℕ) : Type 0 where
  pub room : work_need ≤ length w
  pub accepted : (tray_fault s es).number ≡ 0
  pub few_members : n ≤ max_slips
  pub ascending : Asc ◌<◌ (members w n)
  pub real : (i : ℕ) → In i (members w n) → (1 ≤ i) × (i ≤ length es)
  pub all_nodes : length (nodes_of (patterns_in s es n w)) ≡ suc nodes
  pub few_nodes : nodes ≤ max_letters
  pub at : AtIs (slips_of s es) es (members w n) (cell w AT)
  pub own : OwnIs (slips_of s es) es (members w n) (cell w OWN)
  pub level : LevelIs (patterns_in s es n w) (cell w LEVEL) max_slip

pub record Branched (s es : List ℕ) (n nodes : ℕ) (w : List ℕ) : Type 0 where
  pub numbered : Numbered s es n nodes w
  pub kids : KidIs (patterns_in s es n w) (cell w KID)

pub record Automaton (s es : List ℕ) (n nodes : ℕ) (w : List ℕ) : Type 0 where
  pub branched : Branched s es n nodes w
  pub near : NearIs (patterns_in s es n w) (cell w NEAR)
  pub fails : FailIs (patterns_in s es n w) (cell w FAIL)

pub record Headed (s es : List ℕ) (n nodes : ℕ) (w : List ℕ) : Type 0 where
  pub automaton : Automaton s es n nodes w
  pub heads : HeadIs (slips_of s es) (members w n) (cell w HEAD) (cell w TWIN)

pub record SameBelow (b : ℕ) (w w' : List ℕ) : Type 0 where
  pub same : length w' ≡ length w
  pub cells : (p : ℕ) → p < b → get_or w' p 0 ≡ get_or w p 0
