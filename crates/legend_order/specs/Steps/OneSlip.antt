-- One slip of an order: the slip before it, and its piece.
--   prior_of xs m   == the slip before the m-th, 0 for the first
--   piece_of least s es xs m == the piece of the m-th slip, with this least overlap
use Rattle.std.specs.Prelude.{◌≡◌, List, [], ◌∷◌, ℕ, zero, suc, ◌+◌, ◌*◌, ◌≤◌, ◌<◌, length, get_or}
use Rattle.trays.specs.Limits.{max_slips, max_slip}
use Rattle.trays.specs.Slips.{slips_of, slip}
use Rattle.trays.specs.Aside.{counted}
use Rattle.trays.specs.Faults.{tray_fault}
use Rattle.greedy.specs.Legends.{Piece, piece, added}
use Rattle.greedy.specs.Orders.{weight}
use Rattle.legend_chains.specs.Pieces.{PiecesBehind}

abbrev pub prior_of : List ℕ → ℕ → ℕ
prior_of xs zero = 0
prior_of xs (suc m) = get_or xs m 0

abbrev pub piece_of : ℕ → List ℕ → List ℕ → List ℕ → ℕ → Piece
piece_of least s es xs m = piece (get_or xs m 0) (weight (counted least) (slips_of s es) (prior_of xs m) (get_or xs m 0))

pub record SlipAsks (s es xs : List ℕ) (m : ℕ) : Type 0 where
  pub tray : (tray_fault s es).number ≡ 0
  pub few : m < max_slips
  pub listed : m < length xs
  pub real : (a : ℕ) → a < suc m → (1 ≤ get_or xs a 0) × (get_or xs a 0 ≤ length es)

pub record Shared (least : ℕ) (s es xs : List ℕ) (m r : ℕ) : Type 0 where
  pub is : r ≡ weight (counted least) (slips_of s es) (prior_of xs m) (get_or xs m 0)
  pub within : r ≤ length (slip (slips_of s es) (get_or xs m 0))
  pub short : r ≤ max_slip

pub record AddAsks (s es xs : List ℕ) (m : ℕ) (ps : List ℕ) : Type 0 where
  pub asks : SlipAsks s es xs m
  pub room : 2 * m + 1 < length ps

pub record Added (least : ℕ) (s es xs : List ℕ) (m : ℕ) (ps ps' : List ℕ) (r : ℕ) : Type 0 where
  pub put : PiecesBehind (piece_of least s es xs m ∷ []) m ps ps' (m + 1)
  pub letters : r ≡ length (added (slips_of s es) (piece_of least s es xs m))
  pub short : r ≤ max_slip
