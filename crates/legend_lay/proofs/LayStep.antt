-- One piece laid, and one more behind those before it.
use mathlib.Core.Path.{◌≡◌, ap, ◌∙◌}
use mathlib.Core.List.{List, [], ◌∷◌, ◌++◌, append-nil}
use Prim.Native.Nat.{ℕ, zero, suc, ◌+◌, ◌-◌, ◌≤◌, ◌<◌}
use native.Mathlib.Omega.{arith}
use lib.ListN.{length, take, drop, length-append, length-drop}
use borrow.Rule.Slice.PartMut.{put_mid}
use Rattle.words.specs.Lists.{over, All}
use Rattle.words.proofs.Members.{each_append}
use Rattle.words.proofs.Buffers.{length_over, rest_is, over_mid}
use Rattle.trays.specs.Slips.{slips_of}
use Rattle.greedy.specs.Legends.{Piece, added, spelled}
use Rattle.legend_chains.specs.Pieces.{piece_in, pieces_in}
use Rattle.legend_lay.specs.Laying.{PieceFits, CanLay}
use Rattle.legend_lay.specs.Steps.OnePiece.{CanLayOne, LaidOne}

-- the pieces from k on, one behind the other
pieces_split : (xs : List ℕ) (k m n : ℕ) → pieces_in xs k (m + n) ≡ pieces_in xs k m ++ pieces_in xs (k + m) n
pieces_split xs k zero n =
    let e : 0 + n ≡ n = omega arith in
    let f : k + 0 ≡ k = omega arith in
    rw (e, f)
pieces_split xs k (suc m) n =
    let e : suc m + n ≡ suc (m + n) = omega arith in
    let f : suc k + m ≡ k + suc m = omega arith in
    rw e (ap (λ (l : List Piece). piece_in xs k ∷ l) (pieces_split xs (suc k) m n ∙ rw f))

all_middle : (P : Piece → Type 0) (ps : List Piece) (p : Piece) (qs : List Piece) → All P (ps ++ (p ∷ qs)) → P p
all_middle P [] p qs a = a.0
all_middle P (o ∷ ps) p qs a = all_middle P ps p qs a.1

module _ (s es xs : List ℕ) where
  abbrev ss : List (List ℕ)
  ss = slips_of s es

  -- the first i of the pieces are laid, and the next letters go from `here` on
  pub record Laying (k i : ℕ) (l₀ : List ℕ) (here : ℕ) (l : List ℕ) : Type 0 where
    pub laid : l ≡ over (spelled ss (pieces_in xs k i)) l₀
    pub here_is : length (spelled ss (pieces_in xs k i)) ≡ here

  module _ (k n i : ℕ) (l₀ : List ℕ) (a : CanLay s es xs k n (length l₀)) (here : ℕ) (l : List ℕ) (G : Laying k i l₀ here l) (h : i < n) where
    abbrev before : List Piece
    before = pieces_in xs k i

    abbrev next : Piece
    next = piece_in xs (k + i)

    abbrev after : List Piece
    after = pieces_in xs (suc (k + i)) (n - suc i)

    split : pieces_in xs k n ≡ before ++ (next ∷ after)
    split = let e : n ≡ i + suc (n - suc i) = omega arith in ap (λ (m : ℕ). pieces_in xs k m) e ∙ pieces_split xs k i (suc (n - suc i))

    room : length (spelled ss before) + length (added ss next) ≤ length l₀
    room =
        let e : spelled ss (pieces_in xs k n) ≡ spelled ss before ++ spelled ss (next ∷ after) =
        ap (spelled ss) split ∙ each_append (added ss) before (next ∷ after) in
        omega (
          arith,
          a.room-is,
          ap length e,
          length-append (spelled ss before) (spelled ss (next ∷ after)),
          length-append (added ss next) (spelled ss after),
        )

    size : length l ≡ length l₀
    size = rw G.laid (length_over (spelled ss before) l₀ (omega (arith, room)))

    pub lay_one : CanLayOne s es xs (k + i) (length (take (length l - here) (drop here l)))
    lay_one =
        let long : length (take (length l - here) (drop here l)) ≡ length l - here = rw (rest_is l here) (length-drop here l) in
        record {
          tray = a.tray;
          pairs = omega (arith, a.pairs);
          fits = all_middle (PieceFits s es) before next after (rw split at a.fits);
          room-is = omega (arith, long, size, room, G.here_is);
        }

    pub lay_more : (r : ℕ) (m : List ℕ) → LaidOne ss next (take (length l - here) (drop here l)) m r
        → Laying k (i + 1) l₀ (here + r) (put_mid here (length l - here) l m)
    lay_more r m o =
        let e : spelled ss (pieces_in xs k (i + 1)) ≡ spelled ss before ++ added ss next =
        ap (spelled ss) (pieces_split xs k i 1) ∙ each_append (added ss) before (next ∷ []) ∙ rw append-nil in
        record {
          laid = rw e (over_mid (spelled ss before) (added ss next) l₀ l m here G.here_is G.laid o.letters_are);
          here_is = rw e (omega (arith, length-append (spelled ss before) (added ss next), G.here_is, o.count_is));
        }
