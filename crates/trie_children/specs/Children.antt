-- Parents and children by node numbers, in the work area w of a tray with letters s and ends es.
--   parent_of w u          == the node of the string of node u without its last letter
--   letter_of s w u        == its last letter
--   ParentCells w u       == the cells that tell the parent of u are there
--   Lettered s w u        == those that tell its letter
--   Near ..               == the children are known, and the table NEAR of those of the first nodes
--   CanFill .. v          == the children are known, and v has a row in NEAR
--   CanLook .. v          == v is a node of a work area with NEAR
--   RowFilled .. v w w'   == only the row of v in NEAR was written, and it is right
--   KidsFilled, NearFilled == only the table KID, or NEAR, was written, and it is right
use Rattle.std.specs.Prelude.{cond, List, ℕ, ◌+◌, ◌-◌, ◌*◌, ◌≤◌, ◌<◌, ltb, length, get_or}
use Rattle.tables.specs.Tables.{Cells, Only}
use Rattle.layout.specs.Layout.{max_nodes, AT, OWN, LEVEL, KID, NEAR, near_nodes, near_letters, first_sign, last_sign}
use Rattle.layout.specs.Tables.{cell, Child, NearIs}
use Rattle.layout.specs.Numbered.{patterns_in, Branched}

-- a string of one letter has the empty string before it; the last letter of any other stands behind its parent's
abbrev pub parent_of : List ℕ → ℕ → ℕ
parent_of w u = cond (ltb u (cell w LEVEL 2)) 0 (cell w AT (cell w OWN u - 1))

abbrev pub letter_of : List ℕ → List ℕ → ℕ → ℕ
letter_of s w u = get_or s (cell w OWN u) 0

pub record ParentCells (w : List ℕ) (u : ℕ) : Type 0 where
  pub levels : LEVEL + 2 < length w
  pub own : OWN + u < length w
  pub before : cell w LEVEL 2 ≤ u → (1 ≤ cell w OWN u) × (AT + cell w OWN u ≤ length w)

pub record Lettered (s w : List ℕ) (u : ℕ) : Type 0 where
  pub own : OWN + u < length w
  pub within : cell w OWN u < length s

pub record Near (s es : List ℕ) (n nodes : ℕ) (w : List ℕ) : Type 0 where
  pub branched : Branched s es n nodes w
  pub near : NearIs (patterns_in s es n w) (cell w NEAR)

pub record CanFill (s es : List ℕ) (n nodes : ℕ) (w : List ℕ) (v : ℕ) : Type 0 where
  pub branched : Branched s es n nodes w
  pub node : v ≤ nodes
  pub close : v < near_nodes

pub record CanLook (s es : List ℕ) (n nodes : ℕ) (w : List ℕ) (v : ℕ) : Type 0 where
  pub branched : Branched s es n nodes w
  pub near : NearIs (patterns_in s es n w) (cell w NEAR)
  pub node : v ≤ nodes

pub record KidsFilled (s es : List ℕ) (n nodes : ℕ) (w w' : List ℕ) : Type 0 where
  pub branched : Branched s es n nodes w'
  pub only : Only (Cells KID (max_nodes + 1)) w w'

pub record RowFilled (s es : List ℕ) (n nodes v : ℕ) (w w' : List ℕ) : Type 0 where
  pub row : (c : ℕ) → first_sign ≤ c → c ≤ last_sign → Child (patterns_in s es n w) v c (cell w' NEAR (near_letters * v + (c - first_sign)))
  pub only : Only (Cells (NEAR + near_letters * v) near_letters) w w'

pub record NearFilled (s es : List ℕ) (n nodes : ℕ) (w w' : List ℕ) : Type 0 where
  pub known : Near s es n nodes w'
  pub only : Only (Cells NEAR (near_nodes * near_letters)) w w'
