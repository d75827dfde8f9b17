-- Lists in which nothing stands twice.
--   fewer_list  == such a list, all of whose members are in ys, is no longer than ys
--   full_list   == and if it is as long as ys, then it has all members of ys
--   in_order-length == sorted, it is as long as before
-- A number is struck out of ys, wherever it stands there; the list gets shorter.
use mathlib.Core.Path.{◌≡◌, refl}
use mathlib.Core.Bool.{Bool, false, not}
use mathlib.Core.Logic.{inl, inr}
use mathlib.Core.List.Memᴰ
use mathlib.Core.List.{List, [], ◌∷◌}
use Prim.Native.Nat.{ℕ, ◌≤◌, ◌<◌}
use native.Mathlib.Omega.{arith}
use borrow.Author.Tests.{eqb-true, ne_eqb, eq-eqb}
use lib.Dec.{eqb}
use lib.ListN.{length}
use Rattle.words.specs.Lists.{those, any, in_order}
use Rattle.words.proofs.Tests.{tell, not_both}
use Rattle.words.proofs.Members.{In, Asc, Less, by_in, those-yes, those_no, those_in, in_any, any_in, in_order_sorts}
pub use Rattle.words.specs.Steps.Members.{Distinct}

pub those-length : {A : Type 0} (p : A → Bool) (xs : List A) → length (those p xs) ≤ length xs
those-length p [] = omega arith
those-length p (x ∷ xs) =
    elim (tell (p x)) [ inl e ↦ rw (those-yes p x xs e) (omega (arith, those-length p xs)) | inr e ↦ rw (those_no p x xs e) (omega (arith, those-length p xs)) ]

those_fewer : (p : ℕ → Bool) (xs : List ℕ) (a : ℕ) → In a xs → p a ≡ false → length (those p xs) < length xs
those_fewer p [] a m e = absurd (Memᴰ.not-nil m)
those_fewer p (x ∷ xs) a m e =
    by_in m
    (λ h. let n : p x ≡ false = rw (← h) e in rw (those_no p x xs n) (omega (arith, those-length p xs)))
    (λ h. elim (tell (p x)) [
      | inl y ↦ rw (those-yes p x xs y) (omega (arith, those_fewer p xs a h e))
      | inr n ↦ rw (those_no p x xs n) (omega (arith, those-length p xs))
    ])

pub fewer_list : (xs ys : List ℕ) → Distinct xs → ((i : ℕ) → In i xs → In i ys) → length xs ≤ length ys
fewer_list [] ys d f = omega arith
fewer_list (x ∷ xs) ys d f =
    let other : ℕ → Bool = λ k. not (eqb k x) in
    let rest : (i : ℕ) → In i xs → In i (those other ys) =
    λ i m. those_in other (f i (Memᴰ.tail m)) (rw (ne_eqb i x (λ e. d.0 (rw (← e) m)))) in
    let struck : length (those other ys) < length ys = those_fewer other ys x (f x (Memᴰ.head refl)) (rw (eq-eqb x x refl)) in
    omega (arith, fewer_list xs (those other ys) d.1 rest, struck)

pub full_list : (xs ys : List ℕ) → Distinct xs → ((i : ℕ) → In i xs → In i ys) → length ys ≤ length xs → (i : ℕ) → In i ys → In i xs
full_list xs ys d f h i m =
    elim (tell (any (λ k. eqb k i) xs)) [
      | inl y ↦ let (k, n, e) = any_in (λ k. eqb k i) xs y in rw (← (eqb-true k i e)) n
      | inr n ↦
          let new : In i xs → ⊥ = λ l. not_both (any (λ k. eqb k i) xs) (in_any (λ k. eqb k i) l (eq-eqb i i refl)) n in
          absurd (omega (arith, fewer_list (i ∷ xs) ys (new, d) (λ k l. by_in l (λ e. rw e m) (f k)), h))
    ]

pub asc_distinct : (R : ℕ → ℕ → Type 0) → ((a : ℕ) → R a a → ⊥) → (xs : List ℕ) → Asc R xs → Distinct xs
asc_distinct R irr [] p = tt
asc_distinct R irr (x ∷ xs) p = ((λ m. irr x (p.0 x m)), asc_distinct R irr xs p.1)

pub in_order-length : (lt : ℕ → ℕ → Bool) → ((a : ℕ) → lt a a ≡ false) → ((a b c : ℕ) → Less lt a b → Less lt b c → Less lt a c)
    → ((a b : ℕ) → lt a b ≡ false → lt b a ≡ false → a ≡ b) → (xs : List ℕ) → Distinct xs → length (in_order lt xs) ≡ length xs
in_order-length lt irr tr con xs d =
    let s = in_order_sorts lt tr con xs in
    let e = asc_distinct (Less lt) (λ a h. not_both (lt a a) h (irr a)) (in_order lt xs) s.asc in
    omega (arith, fewer_list xs (in_order lt xs) d s.into, fewer_list (in_order lt xs) xs e s.back)
