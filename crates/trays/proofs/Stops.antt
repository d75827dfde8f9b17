-- Stops: which overlap strings count.
--   counted_counts  == what begins with a string that counts does, and the empty string does not
--   counted_long, counted_short == a string has as many letters as the least overlap, or fewer
--   overlap_for-free == where the least overlap is 1, the overlap with a string that begins with no stop is the plain one
--   after_counts    == some letter of a string is no stop if a string of signs comes before it that is as long
-- The stop is the lowest sign, so no string of signs comes before one of stops alone that is as long.
use mathlib.Core.Path.{◌≡◌, refl}
use mathlib.Core.Bool.{true, false, not, ◌&&◌}
use mathlib.Core.List.{List, [], ◌∷◌}
use mathlib.Core.Logic.{inl, inr}
use Prim.Native.Nat.{ℕ, zero, suc, ◌≤◌, ◌<◌}
use borrow.Author.Tests.{eqb-true, leb-true, le-leb, lt-leb, le-ltb, ne_eqb, not-false}
use native.Mathlib.Omega.{arith}
use lib.Dec.{eqb, leb}
use lib.ListN.{length, take}
use Rattle.words.specs.Lists.{any}
use Rattle.words.specs.Words.{begins, before, overlap, overlap_for}
use Rattle.words.proofs.Tests.{by_test, tell, both, and_intro, either, neither, not_both}
use Rattle.words.proofs.Strings.{begins-length, begins-any}
use Rattle.words.proofs.Overlaps.{Counts, overlap_for_all}
use Rattle.trays.specs.Slips.{stop, is_letter}
use Rattle.trays.specs.Aside.{not_stops, counted}
use Rattle.trays.proofs.Accepted.{Signs}

pub counted_counts : (m : ℕ) → Counts (counted m)
counted_counts m = record { empty = by_test (leb m 0) (λ t. rw t) (λ t. rw t); longer = longer }
  where
    longer : (x y : List ℕ) → begins x y ≡ true → counted m x ≡ true → counted m y ≡ true
    longer x y b e =
        let (long, some) = both (leb m (length x)) (not_stops x) e in
        and_intro (leb m (length y)) (not_stops y)
        (le-leb m (length y) (omega (arith, leb-true m (length x) long, begins-length x y b))) (begins-any (λ b. not (eqb b stop)) x y b some)

-- a string that is long enough counts where some letter is no stop, and none counts that is too short
pub counted_long : (m : ℕ) (x : List ℕ) → m ≤ length x → counted m x ≡ not_stops x
counted_long m x h = rw (le-leb m (length x) h)

pub counted_short : (m : ℕ) (x : List ℕ) → length x < m → counted m x ≡ false
counted_short m x h = rw (lt-leb m (length x) h)

pub overlap_for-free : (m : ℕ) → m ≡ 1 → (x y : List ℕ) → begins (stop ∷ []) y ≡ false → overlap_for (counted m) x y ≡ overlap x y
overlap_for-free m one x y e = rw one (overlap_for_all (counted 1) x y (first y e))
  where
    first : (y : List ℕ) → begins (stop ∷ []) y ≡ false → (n : ℕ) → 1 ≤ n → n ≤ length y → counted 1 (take n y) ≡ true
    first y e zero h l = absurd (omega arith)
    first [] e (suc n) h l = absurd (omega arith)
    first (c ∷ y) e (suc n) h l =
        let other : eqb c stop ≡ false = ne_eqb c stop (λ q. not_both (eqb stop c && true) (rw q) e) in
        rw (other, le-leb 1 (length (c ∷ take n y)) (omega arith))

sign_least : (b : ℕ) → is_letter b ≡ true → stop ≤ b
sign_least b e =
    elim (either (eqb b stop) (leb 65 b && leb b 90) e) [
      | inl t ↦ omega (arith, eqb-true b stop t)
      | inr t ↦ omega (arith, leb-true 65 b (both (leb 65 b) (leb b 90) t).0)
    ]

stops_least : (x y : List ℕ) → length x ≡ length y → Signs x → not_stops y ≡ false → before x y ≡ false
stops_least [] [] n h e = refl
stops_least [] (b ∷ y) n h e = absurd (omega arith)
stops_least (a ∷ x) [] n h e = refl
stops_least (a ∷ x) (b ∷ y) n h e =
    let (sign, signs) = neither (not (is_letter a)) (any (λ b. not (is_letter b)) x) h in
    let (alone, stops) = neither (not (eqb b stop)) (not_stops y) e in
    let low : b ≤ a = omega (arith, eqb-true b stop (not-false (eqb b stop) alone), sign_least a (not-false (is_letter a) sign)) in
    let rest : before x y ≡ false = stops_least x y (omega arith) signs stops in
    elim (tell (eqb a b)) [ inl t ↦ rw (le-ltb a b low, t, rest) | inr t ↦ rw (le-ltb a b low, t) ]

pub after_counts : (x y : List ℕ) → length x ≡ length y → Signs x → before x y ≡ true → not_stops y ≡ true
after_counts x y n h e =
    elim (tell (not_stops y)) [ inl t ↦ t | inr t ↦ absurd (not_both (before x y) e (stops_least x y n h t)) ]
