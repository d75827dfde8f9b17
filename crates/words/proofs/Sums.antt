-- Sums over lists, properties of every member, and how often a number is in a list.
--   sum f xs    == f x added up over xs
--   is x y      == 1 if x and y are equal, else 0
--   held x ys   == how often x is in ys
-- Two lists with equal sums for every f are orders of one another, and a number is a member where it is held at least once: so
-- membership and order are arithmetic.
use mathlib.Core.Path.{◌≡◌, refl, ap, sym}
use mathlib.Core.Bool.{cond}
use mathlib.Core.List.Memᴰ
use mathlib.Core.List.{List, [], ◌∷◌, ◌++◌}
use mathlib.Core.Logic.{inl, inr}
use Prim.Native.Nat.{ℕ, ◌+◌, ◌≤◌, ◌<◌}
use native.Mathlib.Omega.{arith}
use lib.Dec.{eqb}
use lib.ListN.{length}
use borrow.Author.Tests.{eqb-true, eqb-false, eq-eqb, ne_eqb}
use Rattle.words.specs.Lists.{last_or}
pub use Rattle.words.specs.Lists.{All}
use Rattle.words.proofs.Tests.{tell}
use Rattle.words.proofs.Members.{In, Asc, by_in}

abbrev pub sum : {A : Type 0} → (A → ℕ) → List A → ℕ
sum f [] = 0
sum f (x ∷ xs) = f x + sum f xs

abbrev pub is : ℕ → ℕ → ℕ
is x y = cond (eqb x y) 1 0

abbrev pub held : ℕ → List ℕ → ℕ
held x ys = sum (is x) ys

pub sum_append : {A : Type 0} (f : A → ℕ) (X Y : List A) → sum f (X ++ Y) ≡ sum f X + sum f Y
sum_append f [] Y = omega arith
sum_append f (x ∷ X) Y = omega (arith, sum_append f X Y)

pub length_sum : {A : Type 0} (xs : List A) → sum (λ x. 1) xs ≡ length xs
length_sum [] = refl
length_sum (x ∷ xs) = omega (arith, length_sum xs)

-- a positive sum has a positive summand
pub sum_cut : {A : Type 0} (f : A → ℕ) (X : List A) → 1 ≤ sum f X
    → (P : List A) × (x : A) × (S : List A) × (X ≡ P ++ (x ∷ S)) × (1 ≤ f x)
sum_cut f [] h = absurd (omega arith)
sum_cut f (x ∷ X) h =
    elim (tell (eqb (f x) 0)) [
      | inl e ↦
          let r = sum_cut f X (omega (arith, eqb-true (f x) 0 e)) in
          (x ∷ r.0, r.1, r.2, ap (λ Z. x ∷ Z) r.3, r.4)
      | inr e ↦ ([], x, X, refl, omega (arith, eqb-false (f x) 0 e))
    ]

pub all_append : {A : Type 0} (P : A → Type 0) (X Y : List A) → All P X → All P Y → All P (X ++ Y)
all_append P [] Y p q = q
all_append P (x ∷ X) Y p q = (p.0, all_append P X Y p.1 q)

pub all_split : {A : Type 0} (P : A → Type 0) (X Y : List A) → All P (X ++ Y) → All P X × All P Y
all_split P [] Y p = (tt, p)
all_split P (x ∷ X) Y p = let r = all_split P X Y p.1 in ((p.0, r.0), r.1)

-- a positive sum has a positive summand, of which holds what holds of all
pub all_cut : {A : Type 0} (P : A → Type 0) (f : A → ℕ) (X : List A) → All P X → 1 ≤ sum f X
    → (U : List A) × (x : A) × (W : List A) × (X ≡ U ++ (x ∷ W)) × P x × (1 ≤ f x)
all_cut P f X p h =
    let r = sum_cut f X h in
    (r.0, r.1, r.2, r.3, (all_split P r.0 (r.1 ∷ r.2) (rw r.3 at p)).1.0, r.4)

-- what holds where two sums have no summand
pub all_where : {A : Type 0} {P Q : A → Type 0} (f g : A → ℕ) → ((x : A) → P x → f x ≡ 0 → g x ≡ 0 → Q x) → (X : List A)
    → All P X → sum f X ≡ 0 → sum g X ≡ 0 → All Q X
all_where f g h [] p e d = tt
all_where f g h (x ∷ X) p e d =
    (h x p.0 (omega arith) (omega arith), all_where f g h X p.1 (omega arith) (omega arith))

pub all_in : {A : Type 0} (P : A → Type 0) (X : List A) → ((x : A) → In x X → P x) → All P X
all_in P [] h = tt
all_in P (x ∷ X) h = (h x (Memᴰ.head refl), all_in P X (λ y m. h y (Memᴰ.tail m)))

pub all_at : {A : Type 0} (P : A → Type 0) (X : List A) (x : A) → All P X → In x X → P x
all_at P [] x p m = absurd (Memᴰ.not-nil m)
all_at P (y ∷ X) x p m = by_in m (λ e. rw e p.0) (λ n. all_at P X x p.1 n)

-- a member is held, and what is held is a member
is_same : (x y : ℕ) → x ≡ y → is x y ≡ 1
is_same x y e = rw (eq-eqb x y e)

is_other : (x y : ℕ) → (x ≡ y → ⊥) → is x y ≡ 0
is_other x y e = rw (ne_eqb x y e)

pub in_held : (x : ℕ) (X : List ℕ) → In x X → 1 ≤ held x X
in_held x [] m = absurd (Memᴰ.not-nil m)
in_held x (y ∷ X) m = by_in m (λ e. omega (arith, is_same x y e)) (λ n. omega (arith, in_held x X n))

pub held_in : (x : ℕ) (X : List ℕ) → 1 ≤ held x X → In x X
held_in x [] h = absurd (omega arith)
held_in x (y ∷ X) h =
    elim (tell (eqb x y)) [
      | inl e ↦ Memᴰ.head (eqb-true x y e)
      | inr e ↦ Memᴰ.tail (held_in x X (omega (arith, is_other x y (eqb-false x y e))))
    ]

pub held_first : (x y : ℕ) (X : List ℕ) → y ≡ x → 1 ≤ held x (y ∷ X)
held_first x y X e = in_held x (y ∷ X) (Memᴰ.head (sym e))

pub held_last : (x p : ℕ) (X : List ℕ) → last_or p X ≡ x → 1 ≤ held x (p ∷ X)
held_last x p [] e = held_first x p [] e
held_last x p (y ∷ X) e = omega (arith, held_last x y X e)

pub all_held : (P : ℕ → Type 0) (X : List ℕ) → ((x : ℕ) → 1 ≤ held x X → P x) → All P X
all_held P X h = all_in P X (λ x m. h x (in_held x X m))

pub all_of : (P : ℕ → Type 0) (X : List ℕ) (x : ℕ) → All P X → 1 ≤ held x X → P x
all_of P X x p h = all_at P X x p (held_in x X h)

-- an ascending list holds each number once
held_above : (x : ℕ) (X : List ℕ) → ((y : ℕ) → In y X → x < y) → held x X ≡ 0
held_above x [] h = refl
held_above x (y ∷ X) h =
    omega (
      arith,
      is_other x y (λ e. omega (arith, h y (Memᴰ.head refl))),
      held_above x X (λ z m. h z (Memᴰ.tail m)),
    )

pub asc_once : (X : List ℕ) → Asc ◌<◌ X → (x : ℕ) → held x X ≤ 1
asc_once [] a x = omega arith
asc_once (y ∷ X) a x =
    elim (tell (eqb x y)) [
      | inl e ↦
          let d : x ≡ y = eqb-true x y e in
          omega (arith, is_same x y d, held_above x X (λ z m. omega (arith, a.0 z m)))
      | inr e ↦ omega (arith, is_other x y (eqb-false x y e), asc_once X a.1 x)
    ]
