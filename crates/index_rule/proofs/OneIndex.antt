-- A tray has one index, and one pass over a list tells whether it is the index.
--   passes ss p x  == each entry of x is the number of a slip, and stands after the one before it, p before the first
--   one_index      == a list in order, of slip numbers, and as many as slips, is the index
--   index_told     == so where it is as long as the tray and passes
-- Slip 0 has no letters, and stands before every slip, so that the first entry needs no case of its own. Neighbours in order are all in order. Different
-- slip numbers, as many as slips, are all of them.
use mathlib.Core.Path.{◌≡◌, refl}
use mathlib.Core.Bool.{true, ◌&&◌, ◌||◌}
use mathlib.Core.List.Memᴰ
use mathlib.Core.List.{List, [], ◌∷◌}
use Prim.Native.Nat.{ℕ, ◌≤◌}
use native.Mathlib.Omega.{arith}
use borrow.Author.Tests.{leb-true, le-leb, eqb-true, eq-eqb, lt-ltb}
use lib.Dec.{eqb, ltb, leb}
use lib.ListN.{length}
use Rattle.words.specs.Words.{same, before}
use Rattle.words.proofs.Tests.{both, and_intro, same_test}
use Rattle.words.proofs.Orders.{same-is, same_at}
use Rattle.words.proofs.Members.{In, Asc, Less, by_in, up_from_in, asc_one}
use Rattle.words.proofs.Distinct.{asc_distinct, full_list}
use Rattle.words.proofs.Runs.{length-up_from}
use Rattle.trays.specs.Slips.{slip, numbers}
use Rattle.index_rule.specs.Index.{precedes, index_of}
use Rattle.index_rule.specs.Steps.Passing.{fits, passes}
use Rattle.index_rule.proofs.Precedes.{precedes-not, precedes_tr, index_asc, index_real, index_all, index_length}

module _ (ss : List (List ℕ)) where
  pub one_index : (x : List ℕ) → Asc (Less (precedes ss)) x → ((i : ℕ) → In i x → (1 ≤ i) × (i ≤ length ss)) → length x ≡ length ss → x ≡ index_of ss
  one_index x p real n =
      let within : (i : ℕ) → In i x → In i (numbers ss) = λ i m. let r = real i m in up_from_in 1 (length ss) i r.0 (omega arith) in
      let enough : length (numbers ss) ≤ length x = omega (arith, length-up_from 1 (length ss), n) in
      let every = full_list x (numbers ss) (asc_distinct (Less (precedes ss)) (precedes-not ss) x p) within enough in
      asc_one (Less (precedes ss)) (precedes-not ss) (precedes_tr ss) x (index_of ss) p (index_asc ss)
      (λ i m. let r = real i m in index_all ss i r.0 r.1)
      (λ i m. let r = index_real ss i m in every i (up_from_in 1 (length ss) i r.0 (omega arith)))

  -- slip 0 stands before every slip
  pub first_fits : (i : ℕ) → 1 ≤ i → precedes ss 0 i ≡ true
  first_fits i h = go (slip ss i)
    where
      go : (x : List ℕ) → before [] x || (same [] x && ltb 0 i) ≡ true
      go [] = rw (lt-ltb 0 i h)
      go (b ∷ x) = refl

  pub fits_tells : (p i : ℕ) → fits ss p i ≡ true → (1 ≤ i) × (i ≤ length ss) × (precedes ss p i ≡ true)
  fits_tells p i h =
      let (least, rest) = both (leb 1 i) (leb i (length ss) && precedes ss p i) h in
      let (most, after) = both (leb i (length ss)) (precedes ss p i) rest in
      (leb-true 1 i least, leb-true i (length ss) most, after)

  passes_real : (p : ℕ) (x : List ℕ) → passes ss p x ≡ true → (i : ℕ) → In i x → (1 ≤ i) × (i ≤ length ss)
  passes_real p [] h i m = absurd (Memᴰ.not-nil m)
  passes_real p (k ∷ x) h i m =
      let (here, rest) = both (fits ss p k) (passes ss k x) h in
      by_in m (λ e. let r = fits_tells p k here in rw e (r.0, r.1)) (λ n. passes_real k x rest i n)

  passes_asc : (p : ℕ) (x : List ℕ) → passes ss p x ≡ true → Asc (Less (precedes ss)) (p ∷ x)
  passes_asc p [] h = ((λ y m. absurd (Memᴰ.not-nil m)), tt)
  passes_asc p (k ∷ x) h =
      let (here, rest) = both (fits ss p k) (passes ss k x) h in
      let first = (fits_tells p k here).2 in
      let later = passes_asc k x rest in
      ((λ y m. by_in m (λ e. rw e first) (λ n. precedes_tr ss p k y first (later.0 y n))), later)

  asc_passes : (p : ℕ) (x : List ℕ) → Asc (Less (precedes ss)) (p ∷ x) → ((i : ℕ) → In i x → (1 ≤ i) × (i ≤ length ss)) → passes ss p x ≡ true
  asc_passes p [] a real = refl
  asc_passes p (k ∷ x) a real =
      let r = real k (Memᴰ.head refl) in
      and_intro (fits ss p k) (passes ss k x)
      (rw (le-leb 1 k r.0, le-leb k (length ss) r.1) (a.0 k (Memᴰ.head refl)))
      (asc_passes k x a.1 (λ i m. real i (Memᴰ.tail m)))

  index_passes : passes ss 0 (index_of ss) ≡ true
  index_passes = asc_passes 0 (index_of ss) ((λ i m. first_fits i (index_real ss i m).0), index_asc ss) (index_real ss)

  pub index_told : (x : List ℕ) → (eqb (length x) (length ss) && passes ss 0 x) ≡ same x (index_of ss)
  index_told x =
      same_test (eqb (length x) (length ss) && passes ss 0 x) (same x (index_of ss))
      (λ h.
      let (n, p) = both (eqb (length x) (length ss)) (passes ss 0 x) h in
      let is = one_index x (passes_asc 0 x p).1 (passes_real 0 x p) (eqb-true (length x) (length ss) n) in
      rw is (same_at (index_of ss)))
      (λ h.
      let is = same-is x (index_of ss) h in
      rw (is, eq-eqb (length (index_of ss)) (length ss) (index_length ss)) index_passes)
