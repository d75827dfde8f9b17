-- What the two passes over places leave: for a slip among the pieces its place there and the mark 1, for any other its lowest place and what was
-- compared.
--   is_laid i ps   == a piece of ps names slip i
--   LaidOnce ps   == no two pieces of ps name one slip, and each names a slip
--   number_of xs i j == number j of slip i + 1
--   put-..        == the numbers of one slip, put: its own, those of another slip, and how many there are
--   placed-..     == the same for the pieces; aside-.. == for the slips set aside
use mathlib.Core.Path.{◌≡◌, refl, sym, ◌∙◌}
use mathlib.Core.Bool.{Bool, true, false, false≢true, cond}
use mathlib.Core.List.{List, [], ◌∷◌}
use Prim.Native.Nat.{ℕ, zero, suc, ◌+◌, ◌-◌, ◌*◌, ◌≤◌, ◌<◌}
use borrow.Author.Tests.{eqb-true, eqb-false}
use native.Mathlib.Decide.{ℕ_discrete}
use native.Mathlib.Nat.{add-zero}
use native.Mathlib.Omega.{arith}
use lib.Dec.{eqb}
use lib.ListN.{length, get_or, set, length-set}
use lib.Seq.{get_or-set_same, get_or-set_other}
use Rattle.words.specs.Lists.{any}
use Rattle.words.proofs.Tests.{by_test, neither}
use Rattle.trays.specs.Slips.{slip}
use Rattle.greedy.specs.Legends.{Piece, added, place_in, lowest, tried}
use Rattle.answers.specs.Composing.{place_cells}
use Rattle.legend_places.specs.Places.{put_numbers, put_place, placed_by, aside_at, aside_by}

abbrev pub is_laid : ℕ → List Piece → Bool
is_laid i ps = any (λ p. eqb i p.number) ps

abbrev pub LaidOnce : List Piece → Type 0
LaidOnce [] = Unit {0}
LaidOnce (p ∷ ps) = (1 ≤ p.number) × (is_laid p.number ps ≡ false) × LaidOnce ps

abbrev pub number_of : List ℕ → ℕ → ℕ → ℕ
number_of xs i j = get_or xs (place_cells * i + j) 0

module _ (xs : List ℕ) (k a b c : ℕ) where
  pub put-length : length (put_numbers xs k a b c) ≡ length xs
  put-length = simp length-set

  put_other : (i j : ℕ) → j < place_cells → (i ≡ k → ⊥) → number_of (put_numbers xs k a b c) i j ≡ number_of xs i j
  put_other i j l n =
      let n₀ : ℕ = place_cells * k in
      get_or-set_other (set (set xs n₀ a) (n₀ + 1) b) (n₀ + 2) (place_cells * i + j) c 0 (λ q. n (omega arith))
      ∙ get_or-set_other (set xs n₀ a) (n₀ + 1) (place_cells * i + j) b 0 (λ q. n (omega arith))
      ∙ get_or-set_other xs n₀ (place_cells * i + j) a 0 (λ q. n (omega arith))

  put_same : (j : ℕ) → j < place_cells → place_cells * k + 2 < length xs → number_of (put_numbers xs k a b c) k j ≡ get_or (a ∷ (b ∷ (c ∷ []))) j 0
  put_same zero l h =
      let n : ℕ = place_cells * k in
      rw (add-zero n)
      (get_or-set_other (set (set xs n a) (n + 1) b) (n + 2) n c 0 (λ q. omega arith)
      ∙ get_or-set_other (set xs n a) (n + 1) n b 0 (λ q. omega arith)
      ∙ get_or-set_same xs n a 0 (omega arith))
  put_same (suc zero) l h =
      let n : ℕ = place_cells * k in
      get_or-set_other (set (set xs n a) (n + 1) b) (n + 2) (n + 1) c 0 (λ q. omega arith)
      ∙ get_or-set_same (set xs n a) (n + 1) b 0 (rw length-set (omega arith))
  put_same (suc (suc zero)) l h =
      let n : ℕ = place_cells * k in
      get_or-set_same (set (set xs n a) (n + 1) b) (n + 2) c 0 (simp length-set (omega arith))
  put_same (suc (suc (suc j))) l h = absurd (omega arith)

module _ (ss : List (List ℕ)) where
  pub placed_length : (ps : List Piece) (xs : List ℕ) (here : ℕ) → length (placed_by ss xs here ps) ≡ length xs
  placed_length [] xs here = refl
  placed_length (p ∷ ps) xs here = placed_length ps (put_place xs p here) (here + length (added ss p)) ∙ put-length xs _ _ _ _

  -- slip k + 1 is not among the pieces: its numbers are kept
  pub placed_other : (ps : List Piece) (xs : List ℕ) (here k j : ℕ) → LaidOnce ps → is_laid (suc k) ps ≡ false → j < place_cells →
      number_of (placed_by ss xs here ps) k j ≡ number_of xs k j
  placed_other [] xs here k j o h l = refl
  placed_other (p ∷ ps) xs here k j o h l =
      let n = neither (eqb (suc k) p.number) (is_laid (suc k) ps) h in
      let other : k ≡ p.number - 1 → ⊥ = λ q. eqb-false (suc k) p.number n.0 (omega (arith, o.0)) in
      placed_other ps (put_place xs p here) (here + length (added ss p)) k j o.2 n.1 l
      ∙ put_other xs (p.number - 1) (here - p.overlap) 1 0 k j l other

  -- it is: its place there, and the mark
  pub placed_here : (ps : List Piece) (xs : List ℕ) (here k j : ℕ) → LaidOnce ps → is_laid (suc k) ps ≡ true → j < place_cells →
      place_cells * k + 2 < length xs → number_of (placed_by ss xs here ps) k j ≡ get_or (place_in ss (suc k) here ps ∷ (1 ∷ (0 ∷ []))) j 0
  placed_here [] xs here k j o h l r = absurd (false≢true h)
  placed_here (p ∷ ps) xs here k j o h l r =
      let xs' = put_place xs p here in
      let next = here + length (added ss p) in
      by_test (eqb (suc k) p.number)
      (λ t.
      let q : p.number ≡ suc k = sym (eqb-true (suc k) p.number t) in
      let e : p.number - 1 ≡ k = omega arith in
      placed_other ps xs' next k j o.2 (rw q at o.1) l
      ∙ rw (e, t, place_in) (put_same xs k (here - p.overlap) 1 0 j l r))
      (λ t. rw (t, place_in) (placed_here ps xs' next k j o.2 (rw t at h) l (rw (put-length xs _ _ _ _) r)))

  -- the pass over slips set aside writes where the mark is 0
  module _ (t : List ℕ) where
    pub aside_one_length : (xs : List ℕ) (i : ℕ) → length (aside_at ss t xs i) ≡ length xs
    aside_one_length xs i = by_test (eqb (number_of xs i 1) 0) (λ e. rw e (put-length xs i _ _ _)) (λ e. rw e)

    pub aside_length : (xs : List ℕ) (n : ℕ) → length (aside_by ss t xs n) ≡ length xs
    aside_length xs zero = refl
    aside_length xs (suc n) = aside_one_length (aside_by ss t xs n) n ∙ aside_length xs n

    one_other : (xs : List ℕ) (i k j : ℕ) → j < place_cells → (k ≡ i → ⊥) → number_of (aside_at ss t xs i) k j ≡ number_of xs k j
    one_other xs i k j l n = by_test (eqb (number_of xs i 1) 0) (λ e. rw e (put_other xs i _ _ _ k j l n)) (λ e. rw e)

    not_yet : (xs : List ℕ) (n k j : ℕ) → j < place_cells → n ≤ k → number_of (aside_by ss t xs n) k j ≡ number_of xs k j
    not_yet xs zero k j l h = refl
    not_yet xs (suc n) k j l h = one_other (aside_by ss t xs n) n k j l (λ q. omega arith) ∙ not_yet xs n k j l (omega arith)

    -- what slip k + 1 has afterwards
    abbrev aside_numbers : ℕ → List ℕ
    aside_numbers k = let x = slip ss (suc k) in lowest 1 x t ∷ (0 ∷ (tried x t ∷ []))

    one_here : (xs : List ℕ) (k j : ℕ) → j < place_cells → place_cells * k + 2 < length xs →
        number_of (aside_at ss t xs k) k j ≡ cond (eqb (number_of xs k 1) 0) (get_or (aside_numbers k) j 0) (number_of xs k j)
    one_here xs k j l r = by_test (eqb (number_of xs k 1) 0) (λ e. rw e (put_same xs k _ _ _ j l r)) (λ e. rw e)

    pub aside_at_lem : (xs : List ℕ) (n k j : ℕ) → k < n → j < place_cells → place_cells * k + 2 < length xs →
        number_of (aside_by ss t xs n) k j ≡ cond (eqb (number_of xs k 1) 0) (get_or (aside_numbers k) j 0) (number_of xs k j)
    aside_at_lem xs zero k j h l r = absurd (omega arith)
    aside_at_lem xs (suc n) k j h l r =
        elim (ℕ_discrete n k) [
          | yes e ↦
              rw e
              (one_here (aside_by ss t xs k) k j l (rw aside_length r)
              ∙ rw (not_yet xs k k 1 (omega arith) (omega arith), not_yet xs k k j l (omega arith)))
          | no ne ↦ one_other (aside_by ss t xs n) n k j l (λ q. ne (sym q)) ∙ aside_at_lem xs n k j (omega arith) l r
        ]
