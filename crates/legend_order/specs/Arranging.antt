-- Slips laid as one chain in a given order: what writing its pieces asks and gives.
--   order_pieces least s es xs == the pieces of the slips xs, laid as one chain, with this least overlap
--   OrderAsks s es xs k ps    == the tray is accepted, the first k of xs are slips of it, and there is room for their pieces
--   Arranged least s es xs k ps ps' n == the pieces of these slips stand there, and their legend has n letters
use Rattle.std.specs.Prelude.{◌≡◌, List, ℕ, ◌*◌, ◌≤◌, ◌<◌, length, get_or, take}
use Rattle.trays.specs.Limits.{max_slips}
use Rattle.trays.specs.Slips.{slips_of}
use Rattle.trays.specs.Aside.{counted}
use Rattle.trays.specs.Faults.{tray_fault}
use Rattle.greedy.specs.Legends.{Piece, spelled}
use Rattle.greedy.specs.Orders.{weight, laid_after}
use Rattle.legend_chains.specs.Pieces.{pieces_in}

abbrev pub order_pieces : ℕ → List ℕ → List ℕ → List ℕ → List Piece
order_pieces least s es xs = laid_after (weight (counted least) (slips_of s es)) 0 xs

pub record OrderAsks (s es xs : List ℕ) (k : ℕ) (ps : List ℕ) : Type 0 where
  pub tray : (tray_fault s es).number ≡ 0
  pub few : k ≤ max_slips
  pub listed : k ≤ length xs
  pub real : (a : ℕ) → a < k → (1 ≤ get_or xs a 0) × (get_or xs a 0 ≤ length es)
  pub room : 2 * k ≤ length ps

pub record Arranged (least : ℕ) (s es xs : List ℕ) (k : ℕ) (ps ps' : List ℕ) (n : ℕ) : Type 0 where
  pub same : length ps' ≡ length ps
  pub pieces_are : pieces_in ps' 0 k ≡ order_pieces least s es (take k xs)
  pub need_is : n ≡ length (spelled (slips_of s es) (order_pieces least s es (take k xs)))
