-- Lists over a map, where two rules agree on the members that a property P holds of.
--   all-NAME   == what holds of every member of the lists given holds of every member of NAME ..
--   NAME-map   == NAME of the mapped list is NAME of the list, mapped where it is a list
--   each_same  == each_map where the rules give the very same lists; map_same == the same of two maps
--   map_agree  == two maps that agree on the members of a list
-- All go by induction on the list. The rules need to agree only on its members, so P is carried along as an All.
use mathlib.Core.Path.{◌≡◌, refl, sym, ap, ap₂, ◌∙◌}
use mathlib.Core.Bool.{Bool, ◌||◌}
use mathlib.Core.List.{List, [], ◌∷◌, ◌++◌, map, map-append}
use Prim.Native.Nat.{ℕ, zero, suc}
use lib.ListN.{take, drop}
use Rattle.words.specs.Lists.{each, those, any, insert, in_order, tail_of}
use Rattle.words.proofs.Tests.{by_test}
use Rattle.words.proofs.Sums.{All, all_append}

pub all_each : {A B : Type 0} (P : A → Type 0) (Q : B → Type 0) (g : A → List B) → ((x : A) → P x → All Q (g x)) →
    (xs : List A) → All P xs → All Q (each g xs)
all_each P Q g h [] p = tt
all_each P Q g h (x ∷ xs) p = all_append Q (g x) (each g xs) (h x p.0) (all_each P Q g h xs p.1)

all_insert : {A : Type 0} (P : A → Type 0) (lt : A → A → Bool) (x : A) (ys : List A) → P x → All P ys → All P (insert lt x ys)
all_insert P lt x [] px p = (px, tt)
all_insert P lt x (y ∷ ys) px p =
    by_test (lt x y) (λ e. rw (e, insert) (px, p)) λ e. by_test (lt y x)
    (λ d. rw (e, d, insert) (p.0, all_insert P lt x ys px p.1)) (λ d. rw (e, d, insert) p)

pub all_in_order : {A : Type 0} (P : A → Type 0) (lt : A → A → Bool) (xs : List A) → All P xs → All P (in_order lt xs)
all_in_order P lt [] p = tt
all_in_order P lt (x ∷ xs) p = all_insert P lt x (in_order lt xs) p.0 (all_in_order P lt xs p.1)

module _ {A B : Type 0} (f : A → B) (P : A → Type 0) where
  pub any-map : (t : A → Bool) (u : B → Bool) → ((x : A) → P x → u (f x) ≡ t x) → (xs : List A) → All P xs → any u (map f xs) ≡ any t xs
  any-map t u h [] p = refl
  any-map t u h (x ∷ xs) p = ap₂ ◌||◌ (h x p.0) (any-map t u h xs p.1)

  pub those-map : (t : A → Bool) (u : B → Bool) → ((x : A) → P x → u (f x) ≡ t x) → (xs : List A) → All P xs →
      those u (map f xs) ≡ map f (those t xs)
  those-map t u h [] p = refl
  those-map t u h (x ∷ xs) p =
      let r = those-map t u h xs p.1 in
      by_test (t x) (λ e. rw (h x p.0, e, those) (ap (λ l. f x ∷ l) r)) (λ e. rw (h x p.0, e, those) r)

  pub each_same : {C : Type 0} (g : A → List C) (h : B → List C) → ((x : A) → P x → h (f x) ≡ g x) → (xs : List A) → All P xs →
      each h (map f xs) ≡ each g xs
  each_same g h e [] p = refl
  each_same g h e (x ∷ xs) p = ap₂ ◌++◌ (e x p.0) (each_same g h e xs p.1)

  pub map_same : {C : Type 0} (g : A → C) (h : B → C) → ((x : A) → P x → h (f x) ≡ g x) → (xs : List A) → All P xs → map h (map f xs) ≡ map g xs
  map_same g h e [] p = refl
  map_same g h e (x ∷ xs) p = ap₂ ◌∷◌ (e x p.0) (map_same g h e xs p.1)

  pub map_agree : (g : A → B) → ((x : A) → P x → f x ≡ g x) → (xs : List A) → All P xs → map f xs ≡ map g xs
  map_agree g e [] p = refl
  map_agree g e (x ∷ xs) p = ap₂ ◌∷◌ (e x p.0) (map_agree g e xs p.1)

  pub each_map : {C D : Type 0} (r : C → D) (g : A → List C) (h : B → List D) → ((x : A) → P x → h (f x) ≡ map r (g x)) →
      (xs : List A) → All P xs → each h (map f xs) ≡ map r (each g xs)
  each_map r g h e [] p = refl
  each_map r g h e (x ∷ xs) p = ap₂ ◌++◌ (e x p.0) (each_map r g h e xs p.1) ∙ sym (map-append r (g x) (each g xs))

  module _ (lt : A → A → Bool) (mt : B → B → Bool) (h : (x y : A) → P x → P y → mt (f x) (f y) ≡ lt x y) where
    insert-map : (x : A) (ys : List A) → P x → All P ys → insert mt (f x) (map f ys) ≡ map f (insert lt x ys)
    insert-map x [] px p = refl
    insert-map x (y ∷ ys) px p =
        let m = h x y px p.0 in
        let n = h y x p.0 px in
        by_test (lt x y) (λ e. rw (m, e, insert)) λ e. by_test (lt y x)
        (λ d. rw (m, e, n, d, insert) (ap (λ l. f y ∷ l) (insert-map x ys px p.1))) (λ d. rw (m, e, n, d, insert))

    pub in_order-map : (xs : List A) → All P xs → in_order mt (map f xs) ≡ map f (in_order lt xs)
    in_order-map [] p = refl
    in_order-map (x ∷ xs) p =
        rw (in_order-map xs p.1) (insert-map x (in_order lt xs) p.0 (all_in_order P lt xs p.1))

pub tail_of-map : {A B : Type 0} (f : A → B) (xs : List A) → tail_of (map f xs) ≡ map f (tail_of xs)
tail_of-map f [] = refl
tail_of-map f (x ∷ xs) = refl

pub take-map : {A B : Type 0} (f : A → B) (n : ℕ) (xs : List A) → take n (map f xs) ≡ map f (take n xs)
take-map f zero xs = refl
take-map f (suc n) [] = refl
take-map f (suc n) (x ∷ xs) = ap (λ l. f x ∷ l) (take-map f n xs)

pub drop-map : {A B : Type 0} (f : A → B) (n : ℕ) (xs : List A) → drop n (map f xs) ≡ map f (drop n xs)
drop-map f zero xs = refl
drop-map f (suc n) [] = refl
drop-map f (suc n) (x ∷ xs) = drop-map f n xs
