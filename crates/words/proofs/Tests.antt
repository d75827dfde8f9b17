-- Tests: what `&&`, `||`, `not` and `cond` tell, and cases on a test.
--   by_test          == cases on a test, each with its equation
--   tell             == the same as a sum
--   both, either     == what a true && or || tells
--   neither          == what a false || tells
--   one_of           == what a false && tells
--   and_intro, or_left, or_right == the other way
--   same_test        == two tests that imply each other are equal
--   any-is           == the library's word for any
use mathlib.Core.Path.{◌≡◌, refl, sym, ap}
use mathlib.Core.Bool.{Bool, true, false, true≢false, false≢true, ◌&&◌, ◌||◌}
use mathlib.Core.Logic.{◌⊎◌, inl, inr}
use mathlib.Core.List.{List, [], ◌∷◌}
use Rattle.std.specs.List.{list_any}
use Rattle.words.specs.Lists.{any}

pub by_test : {P : Type 0} (b : Bool) → (b ≡ true → P) → (b ≡ false → P) → P
by_test true t f = t refl
by_test false t f = f refl

pub tell : (b : Bool) → (b ≡ true) ⊎ (b ≡ false)
tell true = inl refl
tell false = inr refl

pub both : (a b : Bool) → a && b ≡ true → (a ≡ true) × (b ≡ true)
both true b e = (refl, e)
both false b e = absurd (false≢true e)

pub either : (a b : Bool) → a || b ≡ true → (a ≡ true) ⊎ (b ≡ true)
either true b e = inl refl
either false b e = inr e

pub neither : (a b : Bool) → a || b ≡ false → (a ≡ false) × (b ≡ false)
neither true b e = absurd (true≢false e)
neither false b e = (refl, e)

pub one_of : (a b : Bool) → a && b ≡ false → (a ≡ false) ⊎ (b ≡ false)
one_of true b e = inr e
one_of false b e = inl refl

pub and_intro : (a b : Bool) → a ≡ true → b ≡ true → a && b ≡ true
and_intro true b e f = f
and_intro false b e f = e

pub or_left : (a b : Bool) → a ≡ true → a || b ≡ true
or_left true b e = refl
or_left false b e = absurd (false≢true e)

pub or_right : (a b : Bool) → b ≡ true → a || b ≡ true
or_right true b e = refl
or_right false b e = e

pub not_both : (b : Bool) → b ≡ true → b ≡ false → ⊥
not_both true e f = true≢false f
not_both false e f = false≢true e

pub same_test : (a b : Bool) → (a ≡ true → b ≡ true) → (b ≡ true → a ≡ true) → a ≡ b
same_test true b t f = sym (t refl)
same_test false true t f = f refl
same_test false false t f = refl

-- the library's word for a test that some member passes
pub any-is : {A : Type 0} (p : A → Bool) (xs : List A) → list_any p xs ≡ any p xs
any-is p [] = refl
any-is p (x ∷ xs) = ap (λ b. p x || b) (any-is p xs)
