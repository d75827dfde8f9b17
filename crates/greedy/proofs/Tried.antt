-- The trial of places: the letters compared at one place, and at all places up to the lowest at which the slip stands.
--   agreeing_cons  == with one letter more in front
--   agreeing_all, agreeing_few == where x begins y all letters agree, elsewhere not all
--   agreeing_to    == they agree down to the letter that differs
--   lowest-.., tried-.. == the clauses of both: x stands here, or not; x does not fit
--   lowest-most    == a place is at most one past the letters
--   tried-most     == the letters compared are at most those of the slip at each place
use mathlib.Core.Path.{◌≡◌, refl, sym, ◌∙◌}
use mathlib.Core.Bool.{true, false, true≢false, cond}
use mathlib.Core.List.{List, [], ◌∷◌, reverse, reverse-cons}
use Prim.Native.Nat.{ℕ, zero, suc, ◌+◌, ◌-◌, ◌*◌, ◌≤◌, ◌<◌}
use borrow.Author.Tests.{eqb-true, eq-eqb, ne_eqb, lt-ltb, le-ltb, ltb-true, ltb-false}
use native.Mathlib.Nat.{mul-suc}
use native.Mathlib.Numerals.{add-one}
use native.Mathlib.Omega.{arith}
use lib.Dec.{eqb, ltb}
use lib.ListN.{length, get_or, take, drop, length-reverse}
use lib.Seq.{length-take-le}
use Rattle.words.specs.Words.{begins}
use Rattle.words.proofs.Tests.{by_test, not_both}
use Rattle.words.proofs.Strings.{begins_cons, cons_begins, begins-length}
use Rattle.words.proofs.CommonPrefix.{common_snoc}
use Rattle.greedy.specs.Legends.{lowest, agreeing, tried}

agreeing_cons : (a b : ℕ) (x y : List ℕ) → length x ≤ length y →
    agreeing (a ∷ x) (b ∷ y) ≡ cond (eqb (agreeing x y) (length x)) (cond (eqb a b) (suc (length x)) (length x)) (agreeing x y)
agreeing_cons a b x y h =
    let same : length (reverse x) ≡ length (reverse (take (length x) y)) =
    length-reverse x ∙ sym (length-reverse (take (length x) y) ∙ length-take-le (length x) y h) in
    rw (reverse-cons a x, reverse-cons b (take (length x) y))
    (common_snoc (reverse x) (reverse (take (length x) y)) a b same ∙ rw (length-reverse x))

pub agreeing_all : (x y : List ℕ) → begins x y ≡ true → agreeing x y ≡ length x
agreeing_all [] y e = refl
agreeing_all (a ∷ x) [] e = absurd (omega (arith, begins-length (a ∷ x) [] e))
agreeing_all (a ∷ x) (b ∷ y) e =
    let (p, q) = cons_begins a b x y e in
    agreeing_cons a b x y (begins-length x y q) ∙ rw (eq-eqb _ _ (agreeing_all x y q), eq-eqb a b p)

pub agreeing_few : (x y : List ℕ) → length x ≤ length y → begins x y ≡ false → agreeing x y < length x
agreeing_few [] y h e = absurd (true≢false e)
agreeing_few (a ∷ x) [] h e = absurd (omega arith)
agreeing_few (a ∷ x) (b ∷ y) h e =
    let l : length x ≤ length y = omega arith in
    rw (agreeing_cons a b x y l)
    (by_test (begins x y)
    (λ t.
    let d : eqb a b ≡ false = by_test (eqb a b) (λ q. absurd (not_both _ (begins_cons a b x y (eqb-true a b q) t) e)) (λ q. q) in
    rw (eq-eqb _ _ (agreeing_all x y t), d) (omega arith))
    (λ t. let f = agreeing_few x y l t in rw (ne_eqb (agreeing x y) (length x) (λ q. omega arith)) (omega arith)))

-- behind letter k all agree, and letter k differs
pub record Differs (x y : List ℕ) (k : ℕ) : Type 0 where
  pub agree : agreeing x y ≡ length x - suc k
  pub not-here : begins x y ≡ false

pub agreeing_to : (x y : List ℕ) (k : ℕ) → length x ≤ length y → k < length x → begins (drop (suc k) x) (drop (suc k) y) ≡ true →
    (get_or x k 0 ≡ get_or y k 0 → ⊥) → Differs x y k
agreeing_to [] y k h l e d = absurd (omega arith)
agreeing_to (a ∷ x) [] k h l e d = absurd (omega arith)
agreeing_to (a ∷ x) (b ∷ y) zero h l e d =
    record {
      agree = agreeing_cons a b x y (omega arith) ∙ rw (eq-eqb _ _ (agreeing_all x y e), ne_eqb a b d) (omega arith);
      not-here = rw (ne_eqb a b d);
    }
agreeing_to (a ∷ x) (b ∷ y) (suc k) h l e d =
    let r = agreeing_to x y k (omega arith) (omega arith) e d in
    record {
      agree = agreeing_cons a b x y (omega arith) ∙ rw (ne_eqb (agreeing x y) (length x) (λ q. omega (arith, r.agree))) (r.agree ∙ omega arith);
      not-here = by_test (eqb a b) (λ t. rw t r.not-here) (λ t. rw t);
    }

-- the clauses
pub lowest-here : (p : ℕ) (x t : List ℕ) → begins x t ≡ true → lowest p x t ≡ p
lowest-here p x [] e = refl
lowest-here p x (y ∷ ys) e = rw (e, lowest)

pub lowest_next : (p : ℕ) (x t : List ℕ) → 1 ≤ length t → begins x t ≡ false → lowest p x t ≡ lowest (p + 1) x (drop 1 t)
lowest_next p x [] h e = absurd (omega arith)
lowest_next p x (y ∷ ys) h e = rw (e, lowest, add-one p)

pub lowest-most : (p : ℕ) (x t : List ℕ) → lowest p x t ≤ p + length t
lowest-most p x [] = omega arith
lowest-most p x (y ∷ t) =
    by_test (begins x (y ∷ t)) (λ e. rw (e, lowest) (omega arith)) (λ e. rw (e, lowest) (omega (arith, lowest-most (suc p) x t)))

short_begins : (x t : List ℕ) → length t < length x → begins x t ≡ false
short_begins x t h = by_test (begins x t) (λ e. absurd (omega (arith, begins-length x t e))) (λ e. e)

pub lowest_short : (p : ℕ) (x t : List ℕ) → length t < length x → lowest p x t ≡ p + length t
lowest_short p x [] h = omega arith
lowest_short p x (y ∷ ys) h =
    lowest_next p x (y ∷ ys) (omega arith) (short_begins x (y ∷ ys) h) ∙ lowest_short (p + 1) x ys (omega arith) ∙ omega arith

pub tried_here : (x t : List ℕ) → begins x t ≡ true → tried x t ≡ length x
tried_here x [] e = omega (arith, begins-length x [] e)
tried_here x (y ∷ ys) e =
    rw (le-ltb (length (y ∷ ys)) (length x) (begins-length x (y ∷ ys) e), e, agreeing_all x (y ∷ ys) e) (omega arith)

pub tried_next : (x t : List ℕ) → 1 ≤ length t → length x ≤ length t → begins x t ≡ false → tried x t ≡ suc (agreeing x t) + tried x (drop 1 t)
tried_next x [] n h e = absurd (omega arith)
tried_next x (y ∷ ys) n h e = rw (le-ltb (length (y ∷ ys)) (length x) h, e) (omega arith)

pub tried_short : (x t : List ℕ) → length t < length x → tried x t ≡ 0
tried_short x [] h = refl
tried_short x (y ∷ ys) h = rw (lt-ltb (length (y ∷ ys)) (length x) h, short_begins x (y ∷ ys) h) (omega (arith, tried_short x ys (omega arith)))

-- at each place at most all letters
pub tried-most : (m : ℕ) (x t : List ℕ) → length x ≤ m → tried x t ≤ m * length t
tried-most m x [] h = omega arith
tried-most m x (y ∷ ys) h =
    by_test (ltb (length (y ∷ ys)) (length x))
    (λ s. omega (arith, tried_short x (y ∷ ys) (ltb-true (length (y ∷ ys)) (length x) s)))
    (λ s.
    let l : length x ≤ length (y ∷ ys) = ltb-false (length (y ∷ ys)) (length x) s in
    by_test (begins x (y ∷ ys))
    (λ e. omega (arith, tried_here x (y ∷ ys) e, mul-suc m (length ys)))
    (λ e. omega (arith, tried_next x (y ∷ ys) (omega arith) l e, agreeing_few x (y ∷ ys) l e, tried-most m x ys h, mul-suc m (length ys))))
