-- Pieces put behind other pieces.
--   piece-put      == one piece more
--   behind_none    == no piece more
--   behind_append  == pieces behind pieces that were put so
use mathlib.Core.Path.{◌≡◌, refl, sym, ◌∙◌, ap}
use mathlib.Core.List.{List, [], ◌∷◌, ◌++◌, append_assoc, append-nil}
use Prim.Native.Nat.{ℕ, zero, suc, ◌+◌, ◌*◌, ◌<◌}
use native.Mathlib.Nat.{zero-add}
use native.Mathlib.Numerals.{add-one}
use native.Mathlib.Omega.{arith}
use lib.ListN.{length, get_or, set, length-set, length-append}
use lib.Seq.{get_or-set_same, get_or-set_other}
use Rattle.greedy.specs.Legends.{Piece, piece}
use Rattle.legend_chains.specs.Pieces.{piece_in, pieces_in, PiecesBehind}

-- the last of the pieces
pieces_more : (xs : List ℕ) (k n : ℕ) → pieces_in xs k (suc n) ≡ pieces_in xs k n ++ (piece_in xs (k + n) ∷ [])
pieces_more xs k zero = let e : k + 0 ≡ k = omega arith in rw e
pieces_more xs k (suc n) =
    let e : suc k + n ≡ k + suc n = omega arith in
    ap (λ (l : List Piece). piece_in xs k ∷ l) (pieces_more xs (suc k) n ∙ rw e)

pieces-same : (xs ys : List ℕ) (k n : ℕ) → ((j : ℕ) → j < 2 * (k + n) → get_or xs j 0 ≡ get_or ys j 0) → pieces_in xs k n ≡ pieces_in ys k n
pieces-same xs ys k zero h = refl
pieces-same xs ys k (suc n) h =
    rw (h (2 * k) (omega arith), h (2 * k + 1) (omega arith), pieces-same xs ys (suc k) n (λ j l. h j (omega arith)))

pub piece-put : (xs : List ℕ) (m i o : ℕ) → 2 * m + 1 < length xs
    → PiecesBehind (piece i o ∷ []) m xs (set (set xs (2 * m) i) (2 * m + 1) o) (m + 1)
piece-put xs m i o h =
    let half : List ℕ = set xs (2 * m) i in
    let ys : List ℕ = set half (2 * m + 1) o in
    let slip-is : get_or ys (2 * m) 0 ≡ i =
    get_or-set_other half (2 * m + 1) (2 * m) o 0 (λ q. omega arith) ∙ get_or-set_same xs (2 * m) i 0 (omega arith) in
    let overlap-is : get_or ys (2 * m + 1) 0 ≡ o = get_or-set_same half (2 * m + 1) o 0 (rw length-set h) in
    let before : (j : ℕ) → j < 2 * (0 + m) → get_or ys j 0 ≡ get_or xs j 0 =
    λ j l. get_or-set_other half (2 * m + 1) j o 0 (λ q. omega arith) ∙ get_or-set_other xs (2 * m) j i 0 (λ q. omega arith) in
    record {
      count_is = refl;
      pieces_are = rw (add-one m) (pieces_more ys 0 m ∙ rw (zero-add m, slip-is, overlap-is, pieces-same ys xs 0 m before));
      same = simp length-set;
    }

pub behind_none : (xs : List ℕ) (m : ℕ) → PiecesBehind [] m xs xs m
behind_none xs m = record { count_is = omega arith; pieces_are = sym (append-nil (pieces_in xs 0 m)); same = refl }

pub behind_append : (ps qs : List Piece) (m k r : ℕ) (xs ys zs : List ℕ) → PiecesBehind ps m xs ys k → PiecesBehind qs k ys zs r
    → PiecesBehind (ps ++ qs) m xs zs r
behind_append ps qs m k r xs ys zs f g =
    record {
      count_is = omega (arith, f.count_is, g.count_is, length-append ps qs);
      pieces_are = g.pieces_are ∙ rw f.pieces_are (append_assoc (pieces_in xs 0 m) ps qs);
      same = g.same ∙ f.same;
    }
