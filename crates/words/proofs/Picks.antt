-- Members picked by a test, and members by their place.
--   get_or xs i d   == the member of xs at place i, from 0
--   entry_at      == the i-th of a list, counted from 1, stands at place i - 1
-- Tests that agree on the members of a list pick the same ones. A member stands at some place, and in a list that ascends by an
-- irreflexive relation at one place only.
use mathlib.Core.Path.{◌≡◌, refl, sym, ap, ◌∙◌}
use mathlib.Core.Bool.{Bool, true, false, ◌&&◌}
use mathlib.Core.List.Memᴰ
use mathlib.Core.List.{List, [], ◌∷◌, ◌++◌}
use mathlib.Core.Logic.{inl, inr}
use Prim.Native.Nat.{ℕ, zero, suc, ◌-◌, ◌≤◌, ◌<◌}
use native.Mathlib.Decide.{dec_lt}
use native.Mathlib.Numerals.{sub-one}
use native.Mathlib.Omega.{arith}
use lib.ListN.{length, get_or}
use Rattle.words.specs.Lists.{each, those, entry}
use Rattle.words.proofs.Tests.{tell}
use Rattle.words.proofs.Members.{In, by_in, Asc, those-yes, those_no}

pub those-same : {A : Type 0} (f g : A → Bool) (xs : List A) → ((a : A) → In a xs → f a ≡ g a) → those f xs ≡ those g xs
those-same f g [] h = refl
those-same f g (x ∷ xs) h =
    let e = h x (Memᴰ.head refl) in
    let r = those-same f g xs (λ a m. h a (Memᴰ.tail m)) in
    elim (tell (g x)) [
      | inl y ↦ those-yes f x xs (e ∙ y) ∙ ap (λ l. x ∷ l) r ∙ sym (those-yes g x xs y)
      | inr n ↦ those_no f x xs (e ∙ n) ∙ r ∙ sym (those_no g x xs n)
    ]

pub those_none : {A : Type 0} (t : A → Bool) (xs : List A) → ((a : A) → In a xs → t a ≡ false) → those t xs ≡ []
those_none t [] h = refl
those_none t (x ∷ xs) h = those_no t x xs (h x (Memᴰ.head refl)) ∙ those_none t xs (λ a m. h a (Memᴰ.tail m))

pub those_all : {A : Type 0} (t : A → Bool) (xs : List A) → ((a : A) → In a xs → t a ≡ true) → those t xs ≡ xs
those_all t [] h = refl
those_all t (x ∷ xs) h = those-yes t x xs (h x (Memᴰ.head refl)) ∙ ap (λ l. x ∷ l) (those_all t xs (λ a m. h a (Memᴰ.tail m)))

pub those-and : {A : Type 0} (f g : A → Bool) (xs : List A) → those (λ a. f a && g a) xs ≡ those g (those f xs)
those-and f g [] = refl
those-and f g (x ∷ xs) =
    let r = those-and f g xs in
    elim (tell (f x)) [
      | inl y ↦ rw (those-yes f x xs y) (elim (tell (g x)) [
        | inl t ↦ those-yes (λ a. f a && g a) x xs (rw (y, t)) ∙ ap (λ l. x ∷ l) r ∙ sym (those-yes g x (those f xs) t)
        | inr t ↦ those_no (λ a. f a && g a) x xs (rw (y, t)) ∙ r ∙ sym (those_no g x (those f xs) t)
      ])
      | inr n ↦ rw (those_no f x xs n) (those_no (λ a. f a && g a) x xs (rw n) ∙ r)
    ]

-- what a test leaves out may be left out before
pub those_twice : {A : Type 0} (f g : A → Bool) (xs : List A) → ((a : A) → g a ≡ false → f a ≡ false) → those f (those g xs) ≡ those f xs
those_twice f g [] h = refl
those_twice f g (x ∷ xs) h =
    let r = those_twice f g xs h in
    elim (tell (g x)) [
      | inl y ↦ rw (those-yes g x xs y) (elim (tell (f x)) [
        | inl t ↦ those-yes f x (those g xs) t ∙ ap (λ l. x ∷ l) r ∙ sym (those-yes f x xs t)
        | inr t ↦ those_no f x (those g xs) t ∙ r ∙ sym (those_no f x xs t)
      ])
      | inr n ↦ rw (those_no g x xs n, those_no f x xs (h x n)) r
    ]

pub each-those : {A B : Type 0} (f : A → List B) (t : A → Bool) (xs : List A) → ((a : A) → t a ≡ false → f a ≡ [])
    → each f (those t xs) ≡ each f xs
each-those f t [] h = refl
each-those f t (x ∷ xs) h =
    let r = each-those f t xs h in
    elim (tell (t x)) [ inl y ↦ rw (those-yes t x xs y, r) | inr n ↦ rw (those_no t x xs n, h x n) r ]

pub each_agree : {A B : Type 0} (f g : A → List B) (xs : List A) → ((a : A) → In a xs → f a ≡ g a) → each f xs ≡ each g xs
each_agree f g [] h = refl
each_agree f g (x ∷ xs) h = rw (h x (Memᴰ.head refl), each_agree f g xs (λ a m. h a (Memᴰ.tail m)))

-- an ascending list ascends by any relation that follows between its members
pub asc_turn : {A : Type 0} (R S : A → A → Type 0) (xs : List A) → ((a b : A) → In a xs → In b xs → R a b → S a b) → Asc R xs → Asc S xs
asc_turn R S [] f p = tt
asc_turn R S (x ∷ xs) f p = (
  λ y m. f x y (Memᴰ.head refl) (Memᴰ.tail m) (p.0 y m),
  asc_turn R S xs (λ a b i j. f a b (Memᴰ.tail i) (Memᴰ.tail j)) p.1,
)

-- one more member, behind those that stand in R to it and before those that it stands in R to
pub asc_insert :
    {A : Type 0} (R : A → A → Type 0) (fs : List A) (a : A) (bs : List A)
    → Asc R (fs ++ bs) → ((b : A) → In b fs → R b a) → ((b : A) → In b bs → R a b) → Asc R (fs ++ (a ∷ bs))
asc_insert R [] a bs p f g = (g, p)
asc_insert R (x ∷ fs) a bs p f g = (
  (λ y m. elim (Memᴰ.append_cases fs m) [
    | inl i ↦ p.0 y (Memᴰ.append_left bs i)
    | inr i ↦ by_in i (λ e. rw e (f x (Memᴰ.head refl))) (λ k. p.0 y (Memᴰ.append_right fs k))
  ]),
  asc_insert R fs a bs p.1 (λ b i. f b (Memᴰ.tail i)) g,
)

-- one member fewer
pub in_without : {A : Type 0} {a : A} (xs : List A) (y : A) (ys : List A) → In a (xs ++ ys) → In a (xs ++ (y ∷ ys))
in_without xs y ys m = elim (Memᴰ.append_cases xs m) [ inl i ↦ Memᴰ.append_left (y ∷ ys) i | inr i ↦ Memᴰ.append_right xs (Memᴰ.tail i) ]

pub asc_without : {A : Type 0} (R : A → A → Type 0) (xs : List A) (y : A) (ys : List A) → Asc R (xs ++ (y ∷ ys)) → Asc R (xs ++ ys)
asc_without R [] y ys p = p.1
asc_without R (x ∷ xs) y ys p = (λ z m. p.0 z (in_without xs y ys m), asc_without R xs y ys p.1)

-- of two lists that ascend one behind the other, the members of the first stand in R to those of the second
pub asc_before : {A : Type 0} (R : A → A → Type 0) (xs ys : List A) → Asc R (xs ++ ys) → (a b : A) → In a xs → In b ys → R a b
asc_before R [] ys p a b i j = absurd (Memᴰ.not-nil i)
asc_before R (x ∷ xs) ys p a b i j = by_in i (λ e. rw e (p.0 b (Memᴰ.append_right xs j))) (λ k. asc_before R xs ys p.1 a b k j)

-- at a place within the list the default does not matter
pub entry_at : (xs : List ℕ) (i : ℕ) → 1 ≤ i → get_or xs (i - 1) 0 ≡ entry xs i
entry_at xs zero h = absurd (omega arith)
entry_at xs (suc i) h = rw sub-one

pub get_d_default : {A : Type 0} (xs : List A) (i : ℕ) (d e : A) → i < length xs → get_or xs i d ≡ get_or xs i e
get_d_default [] i d e h = absurd (omega arith)
get_d_default (x ∷ xs) zero d e h = refl
get_d_default (x ∷ xs) (suc i) d e h = get_d_default xs i d e (omega arith)

module _ {A : Type 0} (d : A) where
  pub get_or_in : (xs : List A) (i : ℕ) → i < length xs → In (get_or xs i d) xs
  get_or_in [] i h = absurd (omega arith)
  get_or_in (x ∷ xs) zero h = Memᴰ.head refl
  get_or_in (x ∷ xs) (suc i) h = Memᴰ.tail (get_or_in xs i (omega arith))

  pub in_get_or : {a : A} {xs : List A} → In a xs → (i : ℕ) × (i < length xs) × (get_or xs i d ≡ a)
  in_get_or (Memᴰ.head e) = (0, omega arith, sym e)
  in_get_or (Memᴰ.tail m) = let r = in_get_or m in (suc r.0, let h = r.1 in omega arith, r.2)

  pub asc_get_or : (R : A → A → Type 0) (xs : List A) (i k : ℕ) → Asc R xs → i < k → k < length xs → R (get_or xs i d) (get_or xs k d)
  asc_get_or R [] i k p h l = absurd (omega arith)
  asc_get_or R (x ∷ xs) i zero p h l = absurd (omega arith)
  asc_get_or R (x ∷ xs) zero (suc k) p h l = p.0 (get_or xs k d) (get_or_in xs k (omega arith))
  asc_get_or R (x ∷ xs) (suc i) (suc k) p h l = asc_get_or R xs i k p.1 (omega arith) (omega arith)

  pub get_or_asc : (R : A → A → Type 0) (xs : List A) → ((i k : ℕ) → i < k → k < length xs → R (get_or xs i d) (get_or xs k d)) → Asc R xs
  get_or_asc R [] f = tt
  get_or_asc R (x ∷ xs) f = (
    (λ y m. let r = in_get_or m in rw (← r.2) (f 0 (suc r.0) (omega arith) (let h = r.1 in omega arith))),
    get_or_asc R xs (λ i k h l. f (suc i) (suc k) (omega arith) (omega arith)),
  )

  pub asc_differ :
      (R : A → A → Type 0) → ((a : A) → R a a → ⊥) → (xs : List A) (i k : ℕ)
      → Asc R xs → i < length xs → k < length xs → get_or xs i d ≡ get_or xs k d → i ≡ k
  asc_differ R irr xs i k p h l e =
      elim (dec_lt i k) [
        | yes q ↦ absurd (irr (get_or xs k d) (rw e at (asc_get_or R xs i k p q l)))
        | no q ↦ elim (dec_lt k i) [
          | yes r ↦ absurd (irr (get_or xs k d) (rw e at (asc_get_or R xs k i p r h)))
          | no r ↦ omega arith
        ]
      ]
