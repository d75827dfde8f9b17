-- Prefixes, suffixes and stretches of strings.
--   begins x y        == x is a prefix of y: y is x ++ v for some v
--   ends x y          == x is a suffix of y: y is u ++ x for some u
--   ends_properly x y  == x is a suffix of y and shorter
--   stands_in x y      == x stands in y: y is u ++ (x ++ v) for some u and v
--   fits x y          == the last letters of y, as many as x has, are x
-- For each of the four tests: a split law that names the other parts of y, a law that builds the test from the parts, and what it tells of lengths,
-- of `take` and of `drop`. Prefixes are compared letter by letter; the rest follows from the splits.
use mathlib.Core.Path.{◌≡◌, refl, sym, ap, ◌∙◌}
use mathlib.Core.Bool.{Bool, true, false, false≢true}
use mathlib.Core.Logic.{inl, inr}
use mathlib.Core.List.{List, [], ◌∷◌, ◌++◌}
use Prim.Native.Nat.{ℕ, zero, suc, ◌+◌, ◌-◌, ◌≤◌, ◌<◌}
use native.Mathlib.Omega.{arith}
use lib.Dec.{eqb, leb, ltb}
use lib.ListN.{length, get_or, take, drop, length-append, take-append-drop}
use lib.Seq.{drop_at, drop-drop}
use borrow.Author.Tests.{eqb-true, eq-eqb, leb-true, le-leb, ltb-true, lt-ltb}
use Rattle.words.specs.Lists.{any}
use Rattle.words.specs.Words.{same, begins, ends, ends_properly, stands_in}
use Rattle.words.proofs.Tests.{tell, both, either, and_intro, or_left, or_right, not_both}
use Rattle.words.proofs.Orders.{same-is, same_at}

-- prefixes
pub begins_cons : (x y : ℕ) (xs ys : List ℕ) → x ≡ y → begins xs ys ≡ true → begins (x ∷ xs) (y ∷ ys) ≡ true
begins_cons x y xs ys e h = and_intro (eqb x y) (begins xs ys) (eq-eqb x y e) h

pub cons_begins : (x y : ℕ) (xs ys : List ℕ) → begins (x ∷ xs) (y ∷ ys) ≡ true → (x ≡ y) × (begins xs ys ≡ true)
cons_begins x y xs ys e = let r = both (eqb x y) (begins xs ys) e in (eqb-true x y r.0, r.1)

pub begins-here : (x v : List ℕ) → begins x (x ++ v) ≡ true
begins-here [] v = refl
begins-here (x ∷ xs) v = begins_cons x x xs (xs ++ v) refl (begins-here xs v)

pub begins-refl : (x : List ℕ) → begins x x ≡ true
begins-refl [] = refl
begins-refl (x ∷ xs) = begins_cons x x xs xs refl (begins-refl xs)

pub begins-split : (x y : List ℕ) → begins x y ≡ true → x ++ drop (length x) y ≡ y
begins-split [] y e = refl
begins-split (x ∷ xs) [] e = absurd (false≢true e)
begins-split (x ∷ xs) (y ∷ ys) e = let r = cons_begins x y xs ys e in rw (r.0, begins-split xs ys r.1)

pub begins-take : (x y : List ℕ) → begins x y ≡ true → take (length x) y ≡ x
begins-take [] y e = refl
begins-take (x ∷ xs) [] e = absurd (false≢true e)
begins-take (x ∷ xs) (y ∷ ys) e = let r = cons_begins x y xs ys e in rw (r.0, begins-take xs ys r.1)

pub take_begins : (n m : ℕ) (y : List ℕ) → n ≤ m → begins (take n y) (take m y) ≡ true
take_begins zero m y h = refl
take_begins (suc n) zero y h = absurd (omega arith)
take_begins (suc n) (suc m) [] h = refl
take_begins (suc n) (suc m) (y ∷ ys) h = begins_cons y y (take n ys) (take m ys) refl (take_begins n m ys (omega arith))

pub begins_prefix : (n : ℕ) (y : List ℕ) → begins (take n y) y ≡ true
begins_prefix zero y = refl
begins_prefix (suc n) [] = refl
begins_prefix (suc n) (y ∷ ys) = begins_cons y y (take n ys) ys refl (begins_prefix n ys)

pub begins-length : (x y : List ℕ) → begins x y ≡ true → length x ≤ length y
begins-length x y e = omega (arith, rw length-append at (ap length (begins-split x y e)))

-- the letters of a prefix are those of the whole
pub begins-at : (x y : List ℕ) (k : ℕ) → begins x y ≡ true → k < length x → get_or x k 0 ≡ get_or y k 0
begins-at [] y k e h = absurd (omega arith)
begins-at (x ∷ xs) [] k e h = absurd (false≢true e)
begins-at (x ∷ xs) (y ∷ ys) zero e h = (cons_begins x y xs ys e).0
begins-at (x ∷ xs) (y ∷ ys) (suc k) e h = begins-at xs ys k (cons_begins x y xs ys e).1 (omega arith)

-- some letter of a prefix passes a test: so does one of the whole
pub begins-any : (t : ℕ → Bool) (x y : List ℕ) → begins x y ≡ true → any t x ≡ true → any t y ≡ true
begins-any t [] y e h = absurd (false≢true h)
begins-any t (x ∷ xs) [] e h = absurd (false≢true e)
begins-any t (x ∷ xs) (y ∷ ys) e h =
    let r = cons_begins x y xs ys e in
    elim (either (t x) (any t xs) h) [
      | inl a ↦ or_left (t y) (any t ys) (rw r.0 at a)
      | inr a ↦ or_right (t y) (any t ys) (begins-any t xs ys r.1 a)
    ]

pub begins_none : (t : ℕ → Bool) (x y : List ℕ) → begins x y ≡ true → any t y ≡ false → any t x ≡ false
begins_none t x y e h = elim (tell (any t x)) [ inl a ↦ absurd (not_both (any t y) (begins-any t x y e a) h) | inr a ↦ a ]

pub begins_trans : (x y z : List ℕ) → begins x y ≡ true → begins y z ≡ true → begins x z ≡ true
begins_trans [] y z e f = refl
begins_trans (x ∷ xs) [] z e f = absurd (false≢true e)
begins_trans (x ∷ xs) (y ∷ ys) [] e f = absurd (false≢true f)
begins_trans (x ∷ xs) (y ∷ ys) (z ∷ zs) e f =
    let p = cons_begins x y xs ys e in
    let q = cons_begins y z ys zs f in
    begins_cons x z xs zs (p.0 ∙ q.0) (begins_trans xs ys zs p.1 q.1)

pub begins-drop : (k : ℕ) (x y : List ℕ) → begins x y ≡ true → begins (drop k x) (drop k y) ≡ true
begins-drop zero x y e = e
begins-drop (suc k) [] y e = refl
begins-drop (suc k) (x ∷ xs) [] e = absurd (false≢true e)
begins-drop (suc k) (x ∷ xs) (y ∷ ys) e = begins-drop k xs ys (cons_begins x y xs ys e).1

-- the shorter of two prefixes is a prefix of the longer
pub begins_both : (x y t : List ℕ) → begins x t ≡ true → begins y t ≡ true → length x ≤ length y → begins x y ≡ true
begins_both x y t e f h = rw (begins-take x t e, begins-take y t f) at (take_begins (length x) (length y) t h)

-- two prefixes of one length are equal
pub begins_one : (x y t : List ℕ) → begins x t ≡ true → begins y t ≡ true → length x ≡ length y → x ≡ y
begins_one x y t e f h = sym (begins-take x t e) ∙ (ap (λ n. take n t) h ∙ begins-take y t f)

-- suffixes
abbrev fits : List ℕ → List ℕ → Bool
fits x y = same (drop (length y - length x) y) x

pub ends-length : (x y : List ℕ) → ends x y ≡ true → length x ≤ length y
ends-length x y e = leb-true (length x) (length y) (both (leb (length x) (length y)) (fits x y) e).0

pub ends-drop : (x y : List ℕ) → ends x y ≡ true → drop (length y - length x) y ≡ x
ends-drop x y e = same-is (drop (length y - length x) y) x (both (leb (length x) (length y)) (fits x y) e).1

pub ends-here : (x u : List ℕ) → ends x (u ++ x) ≡ true
ends-here x u =
    and_intro (leb (length x) (length (u ++ x))) (fits x (u ++ x)) (le-leb (length x) (length (u ++ x)) (omega (arith, length-append u x)))
    (rw (drop_at u x (length (u ++ x) - length x) (omega (arith, length-append u x))) (same_at x))

pub ends-refl : (x : List ℕ) → ends x x ≡ true
ends-refl x = ends-here x []

pub ends-split : (x y : List ℕ) → ends x y ≡ true → (u : List ℕ) × (y ≡ u ++ x)
ends-split x y e = let k = length y - length x in (take k y, sym (take-append-drop k y) ∙ ap (λ s. take k y ++ s) (ends-drop x y e))

pub drop-ends : (k : ℕ) (y : List ℕ) → ends (drop k y) y ≡ true
drop-ends k y = rw (take-append-drop k y) at (ends-here (drop k y) (take k y))

-- suffixes that are shorter
pub ends_properly-ends : (x y : List ℕ) → ends_properly x y ≡ true → (length x < length y) × (ends x y ≡ true)
ends_properly-ends x y e =
    let r = both (ltb (length x) (length y)) (fits x y) e in
    let h : length x < length y = ltb-true (length x) (length y) r.0 in
    (h, and_intro (leb (length x) (length y)) (fits x y) (le-leb (length x) (length y) (omega arith)) r.1)

pub ends-ends_properly : (x y : List ℕ) → length x < length y → ends x y ≡ true → ends_properly x y ≡ true
ends-ends_properly x y h e =
    and_intro (ltb (length x) (length y)) (fits x y) (lt-ltb (length x) (length y) h)
    (both (leb (length x) (length y)) (fits x y) e).1

pub ends_properly-drop : (x y : List ℕ) → ends_properly x y ≡ true → drop (length y - length x) y ≡ x
ends_properly-drop x y e = ends-drop x y (ends_properly-ends x y e).1

-- stretches
pub begins_stands : (x y : List ℕ) → begins x y ≡ true → stands_in x y ≡ true
begins_stands x [] e = e
begins_stands x (y ∷ ys) e = or_left (begins x (y ∷ ys)) (stands_in x ys) e

pub stands_drop : (k : ℕ) (x y : List ℕ) → begins x (drop k y) ≡ true → stands_in x y ≡ true
stands_drop zero x y e = begins_stands x y e
stands_drop (suc k) x [] e = e
stands_drop (suc k) x (y ∷ ys) e = or_right (begins x (y ∷ ys)) (stands_in x ys) (stands_drop k x ys e)

pub stands_split : (x y : List ℕ) → stands_in x y ≡ true → (u : List ℕ) × (v : List ℕ) × (y ≡ u ++ (x ++ v))
stands_split x [] e = ([], drop (length x) [], sym (begins-split x [] e))
stands_split x (y ∷ ys) e =
    elim (either (begins x (y ∷ ys)) (stands_in x ys) e) [
      | inl h ↦ ([], drop (length x) (y ∷ ys), sym (begins-split x (y ∷ ys) h))
      | inr h ↦ let r = stands_split x ys h in (y ∷ r.0, r.1, ap (λ s. y ∷ s) r.2)
    ]

-- the place where a stretch begins
pub stands_at : (x y : List ℕ) → stands_in x y ≡ true → (k : ℕ) × (k + length x ≤ length y) × (begins x (drop k y) ≡ true)
stands_at x y e =
    let r = stands_split x y e in
    let h : drop (length r.0) y ≡ x ++ r.1 = ap (λ s. drop (length r.0) s) r.2 ∙ drop_at r.0 (x ++ r.1) (length r.0) refl in
    (length r.0, omega (arith, ap length r.2, length-append r.0 (x ++ r.1), length-append x r.1), rw h (begins-here x r.1))

pub stands_length : (x y : List ℕ) → stands_in x y ≡ true → length x ≤ length y
stands_length x y e = omega (arith, (stands_at x y e).1)

pub ends_stands : (x y : List ℕ) → ends x y ≡ true → stands_in x y ≡ true
ends_stands x y e = stands_drop (length y - length x) x y (rw (ends-drop x y e) (begins-refl x))

pub stands_trans : (x y z : List ℕ) → stands_in x y ≡ true → stands_in y z ≡ true → stands_in x z ≡ true
stands_trans x y z e f =
    let p = stands_at x y e in
    let q = stands_at y z f in
    stands_drop (q.0 + p.0) x z
    (rw drop-drop at (begins_trans x (drop p.0 y) (drop p.0 (drop q.0 z)) p.2 (begins-drop p.0 y (drop q.0 z) q.2)))
