-- All chains put one after another.
use mathlib.Core.Path.{◌≡◌, sym, ◌∙◌, ap}
use mathlib.Core.List.{List, [], ◌∷◌, ◌++◌, append-nil}
use Prim.Native.Nat.{ℕ, suc, ◌+◌, ◌≤◌, ◌<◌}
use native.Mathlib.Numerals.{add-one}
use native.Mathlib.Omega.{arith}
use lib.ListN.{length, get_or, take, drop, length-append, take-append-drop}
use lib.Seq.{take-suc, take-take, get_or-take}
use Rattle.std.proofs.lemmas.List.{length-take}
use Rattle.words.proofs.Members.{each_append}
use Rattle.trays.specs.Limits.{max_slips}
use Rattle.greedy.specs.Legends.{Piece}
use Rattle.legend_chains.specs.Pieces.{PiecesBehind}
use Rattle.legend_chains.specs.Chains.{chain_of, pieces_by, PiecesAsk}
use Rattle.legend_chains.specs.Steps.Following.{AddAsks}
use Rattle.legend_chains.proofs.Behind.{behind_none, behind_append}

-- all slips, one after another
module _ (kept : List ℕ) (n : ℕ) (left right overs : List ℕ) (turns : ℕ) (xs₀ : List ℕ) (a : PiecesAsk kept n left right overs turns xs₀) where
  abbrev by : List ℕ → List Piece
  by K = pieces_by left right overs turns K

  pub pieces_start : PiecesBehind (by (take 0 kept)) 0 xs₀ xs₀ 0
  pieces_start = behind_none xs₀ 0

  module _ (k count slip : ℕ) (xs : List ℕ) (q : k < length (take n kept)) (f : PiecesBehind (by (take k kept)) 0 xs₀ xs count)
      (d : slip ≡ get_or (take n kept) k 0) where
    l : k < n
    l = omega (arith, length-take n kept)

    e : slip ≡ get_or kept k 0
    e = d ∙ get_or-take n kept k 0 l

    more : by (take (suc k) kept) ≡ by (take k kept) ++ chain_of left right overs turns slip
    more =
        rw (take-suc kept k 0 (omega (arith, a.enough, l)), ← e)
        (each_append (chain_of left right overs turns) (take k kept) (slip ∷ []) ∙ rw append-nil)

    -- what is put so far is a first part of the whole
    fits : length (by (take (suc k) kept)) ≤ max_slips
    fits =
        let first : List ℕ = take (suc k) (take n kept) in
        let last : List ℕ = drop (suc k) (take n kept) in
        let whole : length (by (take n kept)) ≡ length (by (take (suc k) kept)) + length (by last) =
        ap (λ (K : List ℕ). length (by K)) (sym (take-append-drop (suc k) (take n kept)))
        ∙ rw (each_append (chain_of left right overs turns) first last, length-append, take-take (suc k) n kept l) in
        omega (arith, a.room)

    pub pieces_asks : AddAsks left right overs turns slip xs count
    pieces_asks =
        let r = a.real k l in
        record {
          lefts = a.lefts;
          rights = a.rights;
          overlaps = a.overlaps;
          right_small = a.right_small;
          some = rw e r.0;
          small = rw e r.1;
          cells = omega (arith, a.cells, f.same);
          room =
              omega (arith, fits, ap length more, length-append (by (take k kept)) (chain_of left right overs turns slip), f.count_is);
        }

    pub pieces_turn : (xs' : List ℕ) (r : ℕ) → PiecesBehind (chain_of left right overs turns slip) count xs xs' r
        → PiecesBehind (by (take (k + 1) kept)) 0 xs₀ xs' r
    pieces_turn xs' r g =
        rw (add-one k, more) (behind_append (by (take k kept)) (chain_of left right overs turns slip) 0 count r xs₀ xs xs' f g)

  pub pieces_end : (k count : ℕ) (xs : List ℕ) → k ≤ n → n ≤ k → PiecesBehind (by (take k kept)) 0 xs₀ xs count
      → PiecesBehind (by (take n kept)) 0 xs₀ xs count
  pieces_end k count xs l m f = let e : k ≡ n = omega arith in rw (← e) f
