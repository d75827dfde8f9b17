-- One piece laid.
--   CanLayOne  == what laying the k-th piece asks
--   LaidOne    == what it leaves: the letters that the piece adds, and their number
use Rattle.std.specs.Prelude.{◌≡◌, List, ℕ, ◌+◌, ◌*◌, ◌≤◌, ◌<◌, length}
use Rattle.words.specs.Lists.{over}
use Rattle.trays.specs.Slips.{slips_of}
use Rattle.trays.specs.Faults.{tray_fault}
use Rattle.greedy.specs.Legends.{Piece, added}
use Rattle.legend_chains.specs.Pieces.{piece_in}
use Rattle.legend_lay.specs.Laying.{PieceFits}

pub record CanLayOne (s es xs : List ℕ) (k : ℕ) (room : ℕ) : Type 0 where
  pub tray : (tray_fault s es).number ≡ 0
  pub pairs : 2 * k + 1 < length xs
  pub fits : PieceFits s es (piece_in xs k)
  pub room-is : length (added (slips_of s es) (piece_in xs k)) ≤ room

pub record LaidOne (ss : List (List ℕ)) (p : Piece) (l l' : List ℕ) (r : ℕ) : Type 0 where
  pub letters_are : l' ≡ over (added ss p) l
  pub count_is : r ≡ length (added ss p)
