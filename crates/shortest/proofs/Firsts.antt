-- The first of a list that no other member beats.
--   Beats beats        == beats is a weak order: where neither of two beats the other, they beat and are beaten alike
--   Firsts beats xs a  == xs has a member, and a is its first that no other beats
-- The better of two is associative, so a list may be gone through in blocks: each block counts as its own first best. Where the list
-- ascends, the first best is the smallest of the best.
use mathlib.Core.Path.{◌≡◌, refl, sym, ap, ap₂, ◌∙◌}
use mathlib.Core.Bool.{Bool, true, false}
use mathlib.Core.Logic.{◌⊎◌, inl, inr}
use mathlib.Core.List.Memᴰ
use mathlib.Core.List.{List, [], ◌∷◌, ◌++◌, map}
use Prim.Native.Nat.{ℕ}
use native.Mathlib.Omega.{arith}
use lib.Dec.{ltb}
use borrow.Author.Tests.{ltb-true, ltb-false, lt-ltb, le-ltb}
use Rattle.words.specs.Lists.{each}
use Rattle.words.proofs.Tests.{tell, not_both}
use Rattle.words.proofs.Members.{In, Asc, by_in}
use Rattle.words.proofs.Sums.{All, all_in}
use Rattle.shortest.specs.Orders.{better, first_from, less}
use Rattle.shortest.specs.Steps.Choosing.{greater, first_most}

pub record Beats {A : Type 0} (beats : A → A → Bool) : Type 0 where
  pub irr : (a : A) → beats a a ≡ false
  pub tr : (a b c : A) → beats a b ≡ true → beats b c ≡ true → beats a c ≡ true
  pub non : (a b c : A) → beats a b ≡ false → beats b c ≡ false → beats a c ≡ false

pub less_beats : {A : Type 0} (f : A → ℕ) → Beats (less f)
less_beats f =
    record {
      irr = λ a. le-ltb (f a) (f a) (omega arith);
      tr = λ a b c e d. lt-ltb (f a) (f c) (omega (arith, ltb-true (f a) (f b) e, ltb-true (f b) (f c) d));
      non = λ a b c e d. le-ltb (f a) (f c) (omega (arith, ltb-false (f a) (f b) e, ltb-false (f b) (f c) d));
    }

pub greater_beats : {A : Type 0} (f : A → ℕ) → Beats (greater f)
greater_beats f =
    let B = less_beats f in
    record {
      irr = B.irr;
      tr = λ a b c e d. B.tr c b a d e;
      non = λ a b c e d. B.non c b a d e;
    }

module _ {A : Type 0} (beats : A → A → Bool) where
  pub better-yes : (b x : A) → beats x b ≡ true → better beats b x ≡ x
  better-yes b x e = rw (e, better)

  pub better_no : (b x : A) → beats x b ≡ false → better beats b x ≡ b
  better_no b x e = rw (e, better)

  pub first_from_append : (b : A) (xs ys : List A) → first_from beats b (xs ++ ys) ≡ first_from beats (first_from beats b xs) ys
  first_from_append b [] ys = refl
  first_from_append b (x ∷ xs) ys = first_from_append (better beats b x) xs ys

  better_in : (b x : A) (xs : List A) → In (better beats b x) (b ∷ (x ∷ xs))
  better_in b x xs =
      elim (tell (beats x b)) [
        | inl e ↦ Memᴰ.tail (Memᴰ.head (better-yes b x e))
        | inr e ↦ Memᴰ.head (better_no b x e)
      ]

  pub first_from_in : (b : A) (xs : List A) → In (first_from beats b xs) (b ∷ xs)
  first_from_in b [] = Memᴰ.head refl
  first_from_in b (x ∷ xs) =
      by_in (first_from_in (better beats b x) xs) (λ e. rw e (better_in b x xs)) (λ m. Memᴰ.tail (Memᴰ.tail m))

  module _ (B : Beats beats) where
    better_assoc : (b x r : A) → better beats (better beats b x) r ≡ better beats b (better beats x r)
    better_assoc b x r =
        elim (tell (beats x b)) [
          | inl e ↦
              elim (tell (beats r x)) [
                | inl d ↦ rw (better-yes b x e, better-yes x r d) (sym (better-yes b r (B.tr r x b d e)))
                | inr d ↦ rw (better-yes b x e, better_no x r d) (sym (better-yes b x e))
              ]
          | inr e ↦
              elim (tell (beats r x)) [
                | inl d ↦ rw (better_no b x e, better-yes x r d)
                | inr d ↦ rw (better_no b x e, better_no x r d) (better_no b r (B.non r x b d e) ∙ sym (better_no b x e))
              ]
        ]

    -- the first member against the best of the others
    pub first_from-step : (b x : A) (xs : List A) → first_from beats b (x ∷ xs) ≡ better beats b (first_from beats x xs)
    first_from-step b x [] = refl
    first_from-step b x (y ∷ ys) =
        first_from-step (better beats b x) y ys
        ∙ better_assoc b x (first_from beats y ys) ∙ ap (better beats b) (sym (first_from-step x y ys))

    pub first_from_best : (b : A) (xs : List A) (x : A) → In x (b ∷ xs) → beats x (first_from beats b xs) ≡ false
    first_from_best b [] x m = by_in m (λ e. rw e (B.irr b)) (λ n. absurd (Memᴰ.not-nil n))
    first_from_best b (y ∷ ys) x m =
        let r = first_from beats y ys in
        rw (first_from-step b y ys)
        (elim (tell (beats r b)) [
          | inl e ↦
              let other : beats b r ≡ false =
              elim (tell (beats b r)) [ inl d ↦ absurd (not_both (beats b b) (B.tr b r b d e) (B.irr b)) | inr d ↦ d ] in
              rw (better-yes b r e) (by_in m (λ d. rw d other) (λ n. first_from_best y ys x n))
          | inr e ↦
              rw (better_no b r e) (by_in m (λ d. rw d (B.irr b)) (λ n. B.non x r b (first_from_best y ys x n) e))
        ])

    -- of several best the first, in an ascending list
    pub first_from-first :
        (R : A → A → Type 0) (b : A) (xs : List A) → Asc R (b ∷ xs) → (x : A) → In x (b ∷ xs)
        → beats (first_from beats b xs) x ≡ false → (first_from beats b xs ≡ x) ⊎ R (first_from beats b xs) x
    first_from-first R b [] a x m = λ h. by_in m (λ e. inl (sym e)) (λ n. absurd (Memᴰ.not-nil n))
    first_from-first R b (y ∷ ys) a x m =
        let r = first_from beats y ys in
        rw (first_from-step b y ys)
        (elim (tell (beats r b)) [
          | inl e ↦
              rw (better-yes b r e) (λ h. by_in m (λ d. absurd (not_both (beats r b) e (rw d at h))) (λ n. first_from-first R y ys a.1 x n h))
          | inr e ↦ rw (better_no b r e) (λ h. by_in m (λ d. inl (sym d)) (λ n. inr (a.0 x n)))
        ])

-- over a map
pub first_from-map :
    {A B : Type 0} (h : A → B) (beats : B → B → Bool) (b : A) (xs : List A)
    → first_from beats (h b) (map h xs) ≡ h (first_from (λ x y. beats (h x) (h y)) b xs)
first_from-map h beats b [] = refl
first_from-map {A} h beats b (x ∷ xs) =
    let past : A → A → Bool = λ x y. beats (h x) (h y) in
    let e : better beats (h b) (h x) ≡ h (better past b x) =
    elim (tell (beats (h x) (h b))) [
      | inl e ↦ better-yes beats (h b) (h x) e ∙ ap h (sym (better-yes past b x e))
      | inr e ↦ better_no beats (h b) (h x) e ∙ ap h (sym (better_no past b x e))
    ] in
    ap (λ c. first_from beats c (map h xs)) e ∙ first_from-map h beats (better past b x) xs

-- by two tests that agree on the members
pub first_from-same :
    {A : Type 0} (P : A → Type 0) (f g : A → A → Bool) → ((x y : A) → P x → P y → f x y ≡ g x y)
    → (b : A) (xs : List A) → P b → All P xs → first_from f b xs ≡ first_from g b xs
first_from-same P f g h b [] p q = refl
first_from-same P f g h b (x ∷ xs) p q =
    elim (tell (g x b)) [
      | inl e ↦
          ap (λ c. first_from f c xs) (better-yes f b x (h x b q.0 p ∙ e))
          ∙ first_from-same P f g h x xs q.0 q.1 ∙ ap (λ c. first_from g c xs) (sym (better-yes g b x e))
      | inr e ↦
          ap (λ c. first_from f c xs) (better_no f b x (h x b q.0 p ∙ e))
          ∙ first_from-same P f g h b xs p q.1 ∙ ap (λ c. first_from g c xs) (sym (better_no g b x e))
    ]

-- block by block
abbrev pub Firsts : {A : Type 0} → (A → A → Bool) → List A → A → Type 0
Firsts {A} beats xs a = (b : A) × (bs : List A) × (xs ≡ b ∷ bs) × (first_from beats b bs ≡ a)

module _ {A : Type 0} (beats : A → A → Bool) (B : Beats beats) where
  pub firsts-behind : (xs : List A) (a : A) → Firsts beats xs a → (c : A) → first_from beats c xs ≡ better beats c a
  firsts-behind xs a (b, bs, e, f) c = rw e (first_from-step beats B c b bs ∙ ap (better beats c) f)

  each-behind :
      {C : Type 0} (block : C → List A) (best : C → A) (R : List C) → All (λ x. Firsts beats (block x) (best x)) R
      → (c : A) → first_from beats c (each block R) ≡ first_from beats c (map best R)
  each-behind block best [] F c = refl
  each-behind block best (x ∷ R) F c =
      first_from_append beats c (block x) (each block R)
      ∙ ap (λ d. first_from beats d (each block R)) (firsts-behind (block x) (best x) F.0 c)
      ∙ each-behind block best R F.1 (better beats c (best x))

  pub firsts-each :
      {C : Type 0} (block : C → List A) (best : C → A) (x : C) (R : List C) → All (λ x. Firsts beats (block x) (best x)) (x ∷ R)
      → Firsts beats (each block (x ∷ R)) (first_from beats (best x) (map best R))
  firsts-each block best x R F =
      let (b, bs, e, f) = F.0 in (
        b,
        bs ++ each block R,
        ap (λ l. l ++ each block R) e,
        first_from_append beats b bs (each block R)
            ∙ ap (λ d. first_from beats d (each block R)) f ∙ each-behind block best R F.1 (best x),
      )

pub first_most_in : {A : Type 0} (f : A → ℕ) (d : A) (x : A) (xs : List A) → In (first_most f d (x ∷ xs)) (x ∷ xs)
first_most_in f d x xs = first_from_in (greater f) x xs

-- by values that agree on the members
pub first_most-same :
    {A : Type 0} (f g : A → ℕ) (d : A) (xs : List A) → ((x : A) → In x xs → f x ≡ g x) → first_most f d xs ≡ first_most g d xs
first_most-same f g d [] h = refl
first_most-same f g d (x ∷ xs) h =
    first_from-same (λ y. In y (x ∷ xs)) (greater f) (greater g) (λ y z p q. ap₂ ltb (h z q) (h y p)) x xs (Memᴰ.head refl)
    (all_in (λ y. In y (x ∷ xs)) xs (λ y m. Memᴰ.tail m))
