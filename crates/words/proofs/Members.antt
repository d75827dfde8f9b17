-- Membership and order in lists, and what the vocabulary of lists has for members.
--   Sorts R xs ys  == ys is ascending by R and has the members of xs
-- Each law is one induction over the list; a test is decided by `tell`, and the two clauses `those-yes`, `those_no` open `those` at its head.
use mathlib.Core.Path.{◌≡◌, refl, sym, ap₂, ◌∙◌}
use mathlib.Core.Bool.{Bool, true, false, ◌||◌}
use mathlib.Core.Logic.{inl, inr}
use mathlib.Core.List.Memᴰ
use mathlib.Core.List.{List, [], ◌∷◌, ◌++◌, append_assoc, Memᴰ}
use Prim.Native.Nat.{ℕ, zero, suc, ◌+◌, ◌≤◌, ◌<◌}
use native.Mathlib.Decide.{ℕ_discrete}
use native.Mathlib.Omega.{arith}
use Rattle.words.specs.Lists.{each, those, any, up_from, insert, in_order}
use Rattle.words.proofs.Tests.{by_test, tell, either, or_left, or_right, not_both}
pub use Rattle.words.specs.Steps.Members.{In, Asc, Less}

pub record Sorts {A : Type 0} (R : A → A → Type 0) (xs ys : List A) : Type 0 where
  pub asc : Asc R ys
  pub into : (c : A) → In c xs → In c ys
  pub back : (c : A) → In c ys → In c xs

pub by_in : {A P : Type 0} {a b : A} {xs : List A} → In a (b ∷ xs) → (a ≡ b → P) → (In a xs → P) → P
by_in (Memᴰ.head e) f g = f e
by_in (Memᴰ.tail m) f g = g m

-- each
module _ {A B : Type 0} (f : A → List B) where
  pub each_in : {a : A} {b : B} {xs : List A} → In a xs → In b (f a) → In b (each f xs)
  each_in (Memᴰ.head {xs = xs} e) m = Memᴰ.append_left (each f xs) (rw e at m)
  each_in (Memᴰ.tail {x = x} i) m = Memᴰ.append_right (f x) (each_in i m)

  pub in_each : {b : B} (xs : List A) → In b (each f xs) → (a : A) × In a xs × In b (f a)
  in_each [] m = absurd (Memᴰ.not-nil m)
  in_each (x ∷ xs) m =
      elim (Memᴰ.append_cases (f x) m) [
        | inl h ↦ (x, Memᴰ.head refl, h)
        | inr h ↦ let r = in_each xs h in (r.0, Memᴰ.tail r.1, r.2)
      ]

  pub each_append : (xs ys : List A) → each f (xs ++ ys) ≡ each f xs ++ each f ys
  each_append [] ys = refl
  each_append (x ∷ xs) ys = rw (each_append xs ys, append_assoc)

-- those, any
module _ {A : Type 0} (t : A → Bool) where
  pub those-yes : (x : A) (xs : List A) → t x ≡ true → those t (x ∷ xs) ≡ x ∷ those t xs
  those-yes x xs e = rw (e, those)

  pub those_no : (x : A) (xs : List A) → t x ≡ false → those t (x ∷ xs) ≡ those t xs
  those_no x xs e = rw (e, those)

  pub those_in : {a : A} {xs : List A} → In a xs → t a ≡ true → In a (those t xs)
  those_in (Memᴰ.head {x = x} {xs = xs} h) e = rw (those-yes x xs (rw h at e)) (Memᴰ.head h)
  those_in (Memᴰ.tail {x = x} {xs = xs} i) e =
      elim (tell (t x)) [
        | inl y ↦ rw (those-yes x xs y) (Memᴰ.tail (those_in i e))
        | inr n ↦ rw (those_no x xs n) (those_in i e)
      ]

  pub in_those : {a : A} (xs : List A) → In a (those t xs) → In a xs × (t a ≡ true)
  in_those [] m = absurd (Memᴰ.not-nil m)
  in_those (x ∷ xs) m =
      elim (tell (t x)) [
        | inl y ↦ by_in (rw (those-yes x xs y) at m) (λ h. (Memᴰ.head h, rw h y)) (λ i. let r = in_those xs i in (Memᴰ.tail r.0, r.1))
        | inr n ↦ let r = in_those xs (rw (those_no x xs n) at m) in (Memᴰ.tail r.0, r.1)
      ]

  pub those_append : (xs ys : List A) → those t (xs ++ ys) ≡ those t xs ++ those t ys
  those_append [] ys = refl
  those_append (x ∷ xs) ys =
      elim (tell (t x)) [
        | inl y ↦ rw (those-yes x xs y, those-yes x (xs ++ ys) y, those_append xs ys)
        | inr n ↦ rw (those_no x xs n, those_no x (xs ++ ys) n, those_append xs ys)
      ]

  pub in_any : {a : A} {xs : List A} → In a xs → t a ≡ true → any t xs ≡ true
  in_any (Memᴰ.head {x = x} {xs = xs} h) e = or_left (t x) (any t xs) (rw h at e)
  in_any (Memᴰ.tail {x = x} {xs = xs} i) e = or_right (t x) (any t xs) (in_any i e)

  pub any_in : (xs : List A) → any t xs ≡ true → (a : A) × In a xs × (t a ≡ true)
  any_in [] e = absurd (not_both false e refl)
  any_in (x ∷ xs) e =
      elim (either (t x) (any t xs) e) [
        | inl y ↦ (x, Memᴰ.head refl, y)
        | inr h ↦ let r = any_in xs h in (r.0, Memᴰ.tail r.1, r.2)
      ]

  pub any_append : (xs ys : List A) → any t (xs ++ ys) ≡ any t xs || any t ys
  any_append [] ys = refl
  any_append (x ∷ xs) ys = by_test (t x) (λ e. rw e) (λ e. rw e (any_append xs ys))

  pub any_none : (xs : List A) → ((a : A) → In a xs → t a ≡ false) → any t xs ≡ false
  any_none [] h = refl
  any_none (x ∷ xs) h = rw (h x (Memᴰ.head refl)) (any_none xs (λ a i. h a (Memᴰ.tail i)))

  pub none_any : (xs : List A) → any t xs ≡ false → (a : A) → In a xs → t a ≡ false
  none_any xs e a i = elim (tell (t a)) [ inl y ↦ absurd (not_both (any t xs) (in_any i y) e) | inr n ↦ n ]

-- up_from
pub in_up_from : {k : ℕ} (i n : ℕ) → In k (up_from i n) → (i ≤ k) × (k < i + n)
in_up_from i zero m = absurd (Memᴰ.not-nil m)
in_up_from i (suc n) m = by_in m (λ e. omega arith) (λ h. let r = in_up_from (suc i) n h in omega arith)

pub up_from_in : (i n k : ℕ) → i ≤ k → k < i + n → In k (up_from i n)
up_from_in i zero k l h = absurd (omega arith)
up_from_in i (suc n) k l h =
    elim (ℕ_discrete k i) [ yes e ↦ Memᴰ.head e | no ne ↦ Memᴰ.tail (up_from_in (suc i) n k (omega arith) (omega arith)) ]

pub asc_up_from : (i n : ℕ) → Asc ◌<◌ (up_from i n)
asc_up_from i zero = tt
asc_up_from i (suc n) = ((λ k m. (in_up_from (suc i) n m).0), asc_up_from (suc i) n)

-- ascending lists
pub asc_append : {A : Type 0} (R : A → A → Type 0) (xs ys : List A) → Asc R xs → Asc R ys → ((a b : A) → In a xs → In b ys → R a b) → Asc R (xs ++ ys)
asc_append R [] ys p q f = q
asc_append R (x ∷ xs) ys p q f = (
  (λ y m. elim (Memᴰ.append_cases xs m) [ inl h ↦ p.0 y h | inr h ↦ f x y (Memᴰ.head refl) h ]),
  asc_append R xs ys p.1 q (λ a b i j. f a b (Memᴰ.tail i) j),
)

pub asc_each : {A B : Type 0} (R : A → A → Type 0) (S : B → B → Type 0) (f : A → List B) (xs : List A) → Asc R xs → ((a : A) → Asc S (f a)) →
    ((a c : A) (b d : B) → R a c → In b (f a) → In d (f c) → S b d) → Asc S (each f xs)
asc_each R S f [] p q h = tt
asc_each R S f (x ∷ xs) p q h =
    asc_append S (f x) (each f xs) (q x) (asc_each R S f xs p.1 q h)
    (λ b d i j. let r = in_each f xs j in h x r.0 b d (p.0 r.0 r.1) i r.2)

pub asc_those : {A : Type 0} (R : A → A → Type 0) (t : A → Bool) (xs : List A) → Asc R xs → Asc R (those t xs)
asc_those R t [] p = tt
asc_those R t (x ∷ xs) p =
    elim (tell (t x)) [
      | inl y ↦ rw (those-yes t x xs y) ((λ z m. p.0 z (in_those t xs m).0), asc_those R t xs p.1)
      | inr n ↦ rw (those_no t x xs n) (asc_those R t xs p.1)
    ]

-- two lists ascending by an irreflexive transitive R, with the same members
module _ {A : Type 0} (R : A → A → Type 0) (irr : (a : A) → R a a → ⊥) (tr : (a b c : A) → R a b → R b c → R a c) where
  asc_head : (x y : A) (xs ys : List A) → Asc R (x ∷ xs) → Asc R (y ∷ ys) → In x (y ∷ ys) → In y (x ∷ xs) → x ≡ y
  asc_head x y xs ys p q i j = by_in i (λ e. e) (λ h. by_in j sym (λ k. absurd (irr x (tr x y x (p.0 y k) (q.0 x h)))))

  asc_tail : (x y a : A) (xs ys : List A) → x ≡ y → Asc R (x ∷ xs) → In a xs → In a (y ∷ ys) → In a ys
  asc_tail x y a xs ys e p i j = by_in j (λ h. absurd (irr x (rw (h ∙ sym e) at (p.0 a i)))) (λ k. k)

  pub asc_one : (xs ys : List A) → Asc R xs → Asc R ys → ((a : A) → In a xs → In a ys) → ((a : A) → In a ys → In a xs) → xs ≡ ys
  asc_one [] [] p q f g = refl
  asc_one [] (y ∷ ys) p q f g = absurd (Memᴰ.not-nil (g y (Memᴰ.head refl)))
  asc_one (x ∷ xs) [] p q f g = absurd (Memᴰ.not-nil (f x (Memᴰ.head refl)))
  asc_one (x ∷ xs) (y ∷ ys) p q f g =
      let e : x ≡ y = asc_head x y xs ys p q (f x (Memᴰ.head refl)) (g y (Memᴰ.head refl)) in
      let there : (a : A) → In a xs → In a ys = λ a i. asc_tail x y a xs ys e p i (f a (Memᴰ.tail i)) in
      let here : (a : A) → In a ys → In a xs = λ a i. asc_tail y x a ys xs (sym e) q i (g a (Memᴰ.tail i)) in
      ap₂ ◌∷◌ e (asc_one xs ys p.1 q.1 there here)

-- insert, in_order: for any test that is transitive and connected
module _ {A : Type 0} (lt : A → A → Bool) (tr : (a b c : A) → Less lt a b → Less lt b c → Less lt a c)
    (con : (a b : A) → lt a b ≡ false → lt b a ≡ false → a ≡ b) where
  pub insert_sorts : (x : A) (ys : List A) → Asc (Less lt) ys → Sorts (Less lt) (x ∷ ys) (insert lt x ys)
  insert_sorts x [] p = record { asc = ((λ y m. absurd (Memᴰ.not-nil m)), tt); into = λ c m. m; back = λ c m. m }
  insert_sorts x (y ∷ ys) p =
      elim (tell (lt x y)) [
        | inl e ↦ rw (e, insert) (record { asc = ((λ z m. by_in m (λ h. rw h e) (λ h. tr x y z e (p.0 z h))), p); into = λ c m. m; back = λ c m. m })
        | inr e ↦ elim (tell (lt y x)) [
          | inl h ↦ rw (e, h, insert) (behind h (insert_sorts x ys p.1))
          | inr h ↦ rw (e, h, insert)
              (record { asc = p; into = λ c m. by_in m (λ i. Memᴰ.head (i ∙ con x y e h)) (λ i. i); back = λ c m. Memᴰ.tail m })
        ]
      ]
    where
      behind : lt y x ≡ true → Sorts (Less lt) (x ∷ ys) (insert lt x ys) → Sorts (Less lt) (x ∷ (y ∷ ys)) (y ∷ insert lt x ys)
      behind h s =
          record {
            asc = ((λ z m. by_in (s.back z m) (λ i. rw i h) (λ i. p.0 z i)), s.asc);
            into = λ c m. by_in m (λ i. Memᴰ.tail (s.into c (Memᴰ.head i)))
                (λ j. by_in j Memᴰ.head (λ i. Memᴰ.tail (s.into c (Memᴰ.tail i))));
            back = λ c m. by_in m (λ i. Memᴰ.tail (Memᴰ.head i)) (λ j. by_in (s.back c j) Memᴰ.head (λ i. Memᴰ.tail (Memᴰ.tail i)));
          }

  pub in_order_sorts : (xs : List A) → Sorts (Less lt) xs (in_order lt xs)
  in_order_sorts [] = record { asc = tt; into = λ c m. m; back = λ c m. m }
  in_order_sorts (x ∷ xs) =
      let s = in_order_sorts xs in
      let r = insert_sorts x (in_order lt xs) s.asc in
      record {
        asc = r.asc;
        into = λ c m. r.into c (by_in m Memᴰ.head (λ i. Memᴰ.tail (s.into c i)));
        back = λ c m. by_in (r.back c m) Memᴰ.head (λ i. Memᴰ.tail (s.back c i));
      }
