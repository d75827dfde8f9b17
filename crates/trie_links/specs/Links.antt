-- Steps and failure links by node numbers, in the work area w of a tray with letters s and ends es.
--   StepIs ps v c u d     == one letter c read in the state of node v leads to the state of node u by d drops
--   LinkIs ps v r         == r is the failure link of node v
--   CanStep .. v          == v is a node of a work area with NEAR, and the failure links of the nodes up to v are known
--   CanLink .. v          == the same, of the nodes below v
--   FailsFilled, LinksFilled == only the table FAIL, or KID, NEAR and FAIL were written, and they are right
use Rattle.std.specs.Prelude.{◌≡◌, List, ℕ, ◌≤◌, ◌<◌}
use Rattle.words.specs.Lists.{tail_of}
use Rattle.tables.specs.Tables.{Cells, Only}
use Rattle.matching.specs.Moves.{longest_ending, step}
use Rattle.matching.specs.Steps.Nodes.{string, IsNode}
use Rattle.layout.specs.Layout.{max_nodes, KID, NEAR, FAIL}
use Rattle.layout.specs.Tables.{cell, NearIs, FailUpTo}
use Rattle.layout.specs.Numbered.{patterns_in, Branched, Automaton}

pub record StepIs (ps : List (List ℕ)) (v c u d : ℕ) : Type 0 where
  pub state : IsNode ps u (step ps (string ps v) c).state
  pub drops : d ≡ (step ps (string ps v) c).drops

abbrev pub LinkIs : List (List ℕ) → ℕ → ℕ → Type 0
LinkIs ps v r = IsNode ps r (longest_ending (tail_of (string ps v)) ps)

pub record CanStep (s es : List ℕ) (n nodes : ℕ) (w : List ℕ) (v : ℕ) : Type 0 where
  pub branched : Branched s es n nodes w
  pub near : NearIs (patterns_in s es n w) (cell w NEAR)
  pub node : v ≤ nodes
  pub links : FailUpTo (patterns_in s es n w) v (cell w FAIL)

pub record CanLink (s es : List ℕ) (n nodes : ℕ) (w : List ℕ) (v : ℕ) : Type 0 where
  pub branched : Branched s es n nodes w
  pub near : NearIs (patterns_in s es n w) (cell w NEAR)
  pub some : 1 ≤ v
  pub node : v ≤ nodes
  pub links : (k : ℕ) → k < v → FailUpTo (patterns_in s es n w) k (cell w FAIL)

pub record FailsFilled (s es : List ℕ) (n nodes : ℕ) (w w' : List ℕ) : Type 0 where
  pub automaton : Automaton s es n nodes w'
  pub only : Only (Cells FAIL max_nodes) w w'

pub record LinksFilled (s es : List ℕ) (n nodes : ℕ) (w w' : List ℕ) : Type 0 where
  pub automaton : Automaton s es n nodes w'
  pub only : Only (Cells KID 5263) w w'
