-- One place written.
--   PutPlaceAsks   == what writing the place of the q-th piece asks, whose letters go from `here` on
--   PlacedOne      == what it leaves: the place and the mark, and where the next letters go
--   AsidePlaceAsks == what writing the place of slip i + 1 in the legend t asks
use Rattle.std.specs.Prelude.{◌≡◌, List, ℕ, ◌+◌, ◌*◌, ◌≤◌, ◌<◌, length}
use Rattle.trays.specs.Limits.{max_letters}
use Rattle.trays.specs.Slips.{slips_of, slip}
use Rattle.trays.specs.Faults.{tray_fault}
use Rattle.greedy.specs.Legends.{Piece, added}
use Rattle.answers.specs.Composing.{place_cells}
use Rattle.legend_chains.specs.Pieces.{piece_in}
use Rattle.legend_places.specs.Places.{put_place}

pub record PutPlaceAsks (s es ps : List ℕ) (q here : ℕ) (xs : List ℕ) : Type 0 where
  pub tray : (tray_fault s es).number ≡ 0
  pub pairs : 2 * q + 1 < length ps
  pub places : place_cells * length es ≤ length xs
  pub some : 1 ≤ (piece_in ps q).number
  pub most : (piece_in ps q).number ≤ length es
  pub reach : (piece_in ps q).overlap ≤ here
  pub within : (piece_in ps q).overlap ≤ length (slip (slips_of s es) (piece_in ps q).number)
  pub small : here < 65536

pub record PlacedOne (ss : List (List ℕ)) (p : Piece) (here : ℕ) (xs xs' : List ℕ) (r : ℕ) : Type 0 where
  pub places_are : xs' ≡ put_place xs p here
  pub next_is : r ≡ here + length (added ss p)

pub record AsidePlaceAsks (s es t : List ℕ) (i : ℕ) (xs : List ℕ) : Type 0 where
  pub tray : (tray_fault s es).number ≡ 0
  pub slips : i < length es
  pub places : place_cells * i + 2 < length xs
  pub short : length t ≤ max_letters
