-- What laying pieces asks: an accepted tray, pieces that fit it, and room for their letters.
--   PieceFits  == a piece names a slip of the tray, and its overlap is at most that slip
--   CanLay     == so do the n pieces from the k-th on, and there is room
use Rattle.std.specs.Prelude.{◌≡◌, List, ℕ, ◌+◌, ◌*◌, ◌≤◌, length}
use Rattle.words.specs.Lists.{All}
use Rattle.trays.specs.Slips.{slips_of, slip}
use Rattle.trays.specs.Faults.{tray_fault}
use Rattle.greedy.specs.Legends.{Piece, spelled}
use Rattle.legend_chains.specs.Pieces.{pieces_in}

pub record PieceFits (s es : List ℕ) (p : Piece) : Type 0 where
  pub some : 1 ≤ p.number
  pub most : p.number ≤ length es
  pub within : p.overlap ≤ length (slip (slips_of s es) p.number)

pub record CanLay (s es xs : List ℕ) (k n : ℕ) (room : ℕ) : Type 0 where
  pub tray : (tray_fault s es).number ≡ 0
  pub pairs : 2 * (k + n) ≤ length xs
  pub fits : All (PieceFits s es) (pieces_in xs k n)
  pub room-is : length (spelled (slips_of s es) (pieces_in xs k n)) ≤ room
