-- Pieces as pairs of numbers, slip and overlap of each.
--   piece_in xs k               == the k-th piece of the numbers xs, counted from 0
--   pieces_in xs k n            == the n pieces from the k-th on
--   PiecesBehind ps m xs xs' r == xs' is xs with the pieces ps behind its first m; r pieces stand there then
use Rattle.std.specs.Prelude.{◌≡◌, List, [], ◌∷◌, ◌++◌, ℕ, zero, suc, ◌+◌, ◌*◌, length, get_or}
use Rattle.greedy.specs.Legends.{Piece, piece}

abbrev pub piece_in : List ℕ → ℕ → Piece
piece_in xs k = piece (get_or xs (2 * k) 0) (get_or xs (2 * k + 1) 0)

abbrev pub pieces_in : List ℕ → ℕ → ℕ → List Piece
pieces_in xs k zero = []
pieces_in xs k (suc n) = piece_in xs k ∷ pieces_in xs (suc k) n

pub record PiecesBehind (ps : List Piece) (m : ℕ) (xs xs' : List ℕ) (r : ℕ) : Type 0 where
  pub count_is : r ≡ m + length ps
  pub pieces_are : pieces_in xs' 0 r ≡ pieces_in xs 0 m ++ ps
  pub same : length xs' ≡ length xs
