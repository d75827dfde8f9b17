-- How far the numbering has come. At the stage (c, r) the nodes of up to c letters have numbers, and of those of c + 1 letters the ones that
-- the first r members of the order O have. The strings in that order are `patterns ss O`, and `levels_up max_slip` of them the nodes by number.
--   AtDone ss es O c r at     == AT is right for the letters below c, and for letter c of the first r members
--   OwnDone ss es O k own     == OWN is right for the nodes 1 to k
--   LevelDone zs c level      == LEVEL is right for the lengths 1 to c + 1
--   Counted ss es O c r k w   == k nodes have numbers, and the tables in w are right so far
--   Stage s es n c r k w      == the same, of the order in w
--   LevelNext s es n c k w        == the level of c + 1 letters comes next
--   AtStage s es n c r w k w'  == w' is at the stage (c, r), and only LEVEL, AT, OWN of w were written
--   Letterable w r p k        == there is room for a letter at the place p of the member of rank r, where k nodes have numbers
--   Lettered w c r p k v w'   == letter c of that member has got the number v: k, the last one, or a new one
use Rattle.std.specs.Prelude.{◌≡◌, List, [], ◌∷◌, ℕ, suc, ◌+◌, ◌≤◌, ◌<◌, length, get_or, take}
use Rattle.trays.specs.Limits.{max_slips, max_slip, max_letters, work_need}
use Rattle.trays.specs.Slips.{slip, slips_of, start_of}
use Rattle.tables.specs.Tables.{table, Put, Only}
use Rattle.matching.specs.Steps.Levels.{level}
use Rattle.matching.specs.Steps.Levels.{levels_up, node_at}
use Rattle.layout.specs.Layout.{ORDER, COMMON, LEVEL, AT, OWN}
use Rattle.layout.specs.Tables.{cell, patterns, Owned}
use Rattle.trie_nodes.specs.Numbering.{Sorted, NodeCells}

abbrev pub AtDone : List (List ℕ) → List ℕ → List ℕ → ℕ → ℕ → (ℕ → ℕ) → Type 0
AtDone ss es O c r at =
    (e j : ℕ) → e ≤ c → (e ≡ c → j < r) → j < length O → e < length (slip ss (get_or O j 0))
    → at (start_of es (get_or O j 0) + e) ≡ node_at (patterns ss O) e j

abbrev pub OwnDone : List (List ℕ) → List ℕ → List ℕ → ℕ → (ℕ → ℕ) → Type 0
OwnDone ss es O k own = (v : ℕ) → 1 ≤ v → v ≤ k → Owned ss es O (own v) (get_or ([] ∷ levels_up max_slip (patterns ss O)) v [])

abbrev pub LevelDone : List (List ℕ) → ℕ → (ℕ → ℕ) → Type 0
LevelDone zs c level = (d : ℕ) → d ≤ c → level (suc d) ≡ suc (length (levels_up d zs))

-- how many nodes have numbers
abbrev pub numbered : List (List ℕ) → ℕ → ℕ → ℕ
numbered zs c r = length (levels_up c zs) + length (level (suc c) [] (take r zs))

pub record Counted (ss : List (List ℕ)) (es O : List ℕ) (c r k : ℕ) (w : List ℕ) : Type 0 where
  pub count : k ≡ numbered (patterns ss O) c r
  pub at : AtDone ss es O c r (cell w AT)
  pub own : OwnDone ss es O k (cell w OWN)
  pub level : LevelDone (patterns ss O) c (cell w LEVEL)

pub record Stage (s es : List ℕ) (n c r k : ℕ) (w : List ℕ) : Type 0 where
  pub sorted : Sorted s es n w
  pub counted : Counted (slips_of s es) es (table w ORDER n) c r k w

pub record LevelNext (s es : List ℕ) (n c k : ℕ) (w : List ℕ) : Type 0 where
  pub stage : Stage s es n c 0 k w
  pub short : c < max_slip

pub record AtStage (s es : List ℕ) (n c r : ℕ) (w : List ℕ) (k : ℕ) (w' : List ℕ) : Type 0 where
  pub stage : Stage s es n c r k w'
  pub only : Only NodeCells w w'

pub record Letterable (w : List ℕ) (r p k : ℕ) : Type 0 where
  pub room : work_need ≤ length w
  pub rank : r < max_slips
  pub place : p < max_letters
  pub count : k ≤ max_letters

pub data Lettered (w : List ℕ) (c r p k v : ℕ) (w' : List ℕ) : Type 0 where
  old : c < cell w COMMON r → v ≡ k → Put w AT p k w' → Lettered w c r p k v w'
  new : {u : List ℕ} → cell w COMMON r ≤ c → v ≡ k + 1 → Put w OWN (k + 1) p u → Put u AT p (k + 1) w' → Lettered w c r p k v w'
