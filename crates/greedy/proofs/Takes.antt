-- Taking arcs one after another.
--   by_zero, some-eqb    == cases on whether there is a neighbour, and the test that there is one
--   in_cond              == what a member of `cond b (a ∷ []) []` tells
--   Sound js             == every left slip of js is numbered from 1
--   free l r js ≡ false  == the pair l, r is refused
--   Cover R xs js c      == the pair of c is refused, or xs has an arc of that pair that c does not precede by R
-- A pair that is refused stays refused: a neighbour stays, and so does the last slip of a chain until it gets a neighbour. After an
-- arc has been considered its pair is refused. So arcs may be left out that follow another one of the same pair (take_thin).
use mathlib.Core.Path.{◌≡◌, refl, sym, ◌∙◌}
use mathlib.Core.Bool.{Bool, true, false, cond, and-false}
use mathlib.Core.List.Memᴰ.{head as here}
use mathlib.Core.List.Memᴰ.{tail as there}
use mathlib.Core.List.{List, [], ◌∷◌, ◌++◌}
use mathlib.Core.List.Memᴰ
use mathlib.Core.Logic.{◌⊎◌, inl, inr}
use Prim.Native.Nat.{ℕ, zero, suc, ◌≤◌}
use native.Mathlib.Omega.{arith}
use lib.Dec.{eqb}
use lib.ListN.{length, length-append}
use borrow.Author.Tests.{not-false, eqb-true, eq-eqb, ne_eqb}
use Rattle.words.proofs.Tests.{tell}
use Rattle.words.proofs.Members.{In, Asc, by_in}
use Rattle.greedy.specs.Joins.{Join, right_of, left_of, last_from, last_of, free, take_arc, take_arcs}

abbrev pub Sound : List Join → Type 0
Sound js = (j : Join) → In j js → 1 ≤ j.left

pub by_zero : {P : Type 0} (n : ℕ) → (n ≡ 0 → P) → (1 ≤ n → P) → P
by_zero zero z s = z refl
by_zero (suc n) z s = s (omega arith)

pub some-eqb : (n : ℕ) → 1 ≤ n → eqb n 0 ≡ false
some-eqb n h = ne_eqb n 0 (λ e. omega arith)

pub in_cond : {A : Type 0} {a c : A} (b : Bool) → In c (cond b (a ∷ []) []) → (b ≡ true) × (c ≡ a)
in_cond true m = (refl, Memᴰ.eq_of_singleton m)
in_cond false m = absurd (Memᴰ.not-nil m)

pub right_of_append : (i : ℕ) (js ks : List Join) → 1 ≤ right_of i js → right_of i (js ++ ks) ≡ right_of i js
right_of_append i [] ks h = absurd (omega arith)
right_of_append i (j ∷ js) ks h =
    elim (tell (eqb i j.left)) [ inl e ↦ rw (e, right_of) | inr e ↦ rw (e, right_of) (right_of_append i js ks (rw (e, right_of) at h)) ]

pub left_of_append : (i : ℕ) (js ks : List Join) → 1 ≤ left_of i js → left_of i (js ++ ks) ≡ left_of i js
left_of_append i [] ks h = absurd (omega arith)
left_of_append i (j ∷ js) ks h =
    elim (tell (eqb i j.right)) [ inl e ↦ rw (e, left_of) | inr e ↦ rw (e, left_of) (left_of_append i js ks (rw (e, left_of) at h)) ]

-- after a join its right slip has a left neighbour
pub left_of_joined : (a : Join) (js : List Join) → 1 ≤ a.left → Sound js → 1 ≤ left_of a.right (js ++ (a ∷ []))
left_of_joined a [] h s = rw (eq-eqb a.right a.right refl, left_of) h
left_of_joined a (j ∷ js) h s =
    elim (tell (eqb a.right j.right)) [
      | inl e ↦ rw (e, left_of) (s j (here refl))
      | inr e ↦ rw (e, left_of) (left_of_joined a js h (λ k m. s k (there m)))
    ]

pub last_stop : (n i : ℕ) (js : List Join) → right_of i js ≡ 0 → last_from n i js ≡ i
last_stop zero i js z = refl
last_stop (suc n) i js z = rw (z, last_from)

pub last_go : (n i : ℕ) (js : List Join) → 1 ≤ right_of i js → last_from (suc n) i js ≡ last_from n (right_of i js) js
last_go n i js h = rw (some-eqb (right_of i js) h, last_from)

pub last_from_append :
    (n i l : ℕ) (js ks : List Join) → last_from n i js ≡ l → right_of l (js ++ ks) ≡ 0 → last_from (suc n) i (js ++ ks) ≡ l
last_from_append zero i l js ks e z = last_stop 1 i (js ++ ks) (rw e z) ∙ e
last_from_append (suc n) i l js ks e z =
    by_zero (right_of i js)
    (λ f. let q : i ≡ l = sym (last_stop (suc n) i js f) ∙ e in last_stop (suc (suc n)) i (js ++ ks) (rw q z) ∙ q)
    (λ h.
    let k : right_of i (js ++ ks) ≡ right_of i js = right_of_append i js ks h in
    last_go (suc n) i (js ++ ks) (rw k h) ∙ rw k (last_from_append n (right_of i js) l js ks (sym (last_go n i js h) ∙ e) z))

pub refused_right : (l r : ℕ) (js : List Join) → 1 ≤ right_of l js → free l r js ≡ false
refused_right l r js h = rw (some-eqb (right_of l js) h)

pub refused_left : (l r : ℕ) (js : List Join) → 1 ≤ left_of r js → free l r js ≡ false
refused_left l r js h = rw (some-eqb (left_of r js) h) (and-false (eqb (right_of l js) 0))

pub refused_last : (l r : ℕ) (js : List Join) → last_of r js ≡ l → free l r js ≡ false
refused_last l r js e = rw (eq-eqb (last_of r js) l e, and-false (eqb (left_of r js) 0)) (and-false (eqb (right_of l js) 0))

-- what refuses a pair
pub by_refused :
    {P : Type 0} (l r : ℕ) (js : List Join)
    → free l r js ≡ false → (1 ≤ right_of l js → P) → (1 ≤ left_of r js → P) → (last_of r js ≡ l → P) → P
by_refused l r js e f g h =
    by_zero (right_of l js)
    (λ z. by_zero (left_of r js) (λ y. h (eqb-true (last_of r js) l (not-false (eqb (last_of r js) l) (rw (z, y) at e)))) g)
    f

add_last : (js : List Join) (a : Join) → length (js ++ (a ∷ [])) ≡ suc (length js)
add_last js a = omega (arith, length-append js (a ∷ []))

pub refused_append : (l r : ℕ) (a : Join) (js : List Join) → free l r js ≡ false → free l r (js ++ (a ∷ [])) ≡ false
refused_append l r a js e =
    let ks = js ++ (a ∷ []) in
    by_refused l r js e
    (λ h. refused_right l r ks (rw right_of_append h))
    (λ h. refused_left l r ks (rw left_of_append h))
    (λ q.
    by_zero (right_of l ks)
    (λ z. refused_last l r ks (rw (add_last js a) (last_from_append (length js) r l js (a ∷ []) q z)))
    (refused_right l r ks))

pub refused_take : (l r : ℕ) (a : Join) (js : List Join) → free l r js ≡ false → free l r (take_arc a js) ≡ false
refused_take l r a js e = elim (tell (free a.left a.right js)) [ inl t ↦ rw t (refused_append l r a js e) | inr t ↦ rw t e ]

pub refused_self : (a : Join) (js : List Join) → 1 ≤ a.left → Sound js → free a.left a.right (take_arc a js) ≡ false
refused_self a js h s =
    elim (tell (free a.left a.right js))
    [ inl t ↦ rw t (refused_left a.left a.right (js ++ (a ∷ [])) (left_of_joined a js h s)) | inr t ↦ rw t t ]

pub take_append : (xs ys js : List Join) → take_arcs (xs ++ ys) js ≡ take_arcs ys (take_arcs xs js)
take_append [] ys js = refl
take_append (x ∷ xs) ys js = take_append xs ys (take_arc x js)

pub take_none :
    (xs js : List Join) → ((x : Join) → In x xs → free x.left x.right js ≡ false) → take_arcs xs js ≡ js
take_none [] js f = refl
take_none (x ∷ xs) js f = rw (f x (here refl)) (take_none xs js (λ y m. f y (there m)))

pub sound_nil : Sound []
sound_nil j m = absurd (Memᴰ.not-nil m)

pub sound_arc : (a : Join) (js : List Join) → 1 ≤ a.left → Sound js → Sound (take_arc a js)
sound_arc a js h s =
    elim (tell (free a.left a.right js)) [
      | inl t ↦ rw t (λ j m. elim (Memᴰ.append_cases js m) [ inl i ↦ s j i | inr i ↦ rw (Memᴰ.eq_of_singleton i) h ])
      | inr t ↦ rw t s
    ]

pub sound_take : (xs js : List Join) → Sound xs → Sound js → Sound (take_arcs xs js)
sound_take [] js s t = t
sound_take (x ∷ xs) js s t = sound_take xs (take_arc x js) (λ k m. s k (there m)) (sound_arc x js (s x (here refl)) t)

abbrev pub Cover : (Join → Join → Type 0) → List Join → List Join → Join → Type 0
Cover R xs js c =
    (free c.left c.right js ≡ false)
    ⊎ ((d : Join) × In d xs × (d.left ≡ c.left) × (d.right ≡ c.right) × (R c d → ⊥))

module _ (R : Join → Join → Type 0) (irr : (a : Join) → R a a → ⊥) (trans : (a b c : Join) → R a b → R b c → R a c) where
  later : (c x : Join) (cs : List Join) → R c x → In x (c ∷ cs) → In x cs
  later c x cs h m = by_in m (λ e. absurd (irr c (rw e at h))) (λ i. i)

  cover_refused : (c : Join) (xs js : List Join) → ((x : Join) → In x xs → R c x) → Cover R xs js c → free c.left c.right js ≡ false
  cover_refused c xs js h (inl e) = e
  cover_refused c xs js h (inr d) = absurd (d.4 (h d.0 d.1))

  cover_take :
      (c d : Join) (xs js : List Join) → 1 ≤ c.left → Sound js → Cover R (c ∷ xs) js d → Cover R xs (take_arc c js) d
  cover_take c d xs js h s (inl e) = inl (refused_take d.left d.right c js e)
  cover_take c d xs js h s (inr k) =
      by_in k.1
      (λ e. inl (rw (← k.2, ← k.3, e) (refused_self c js h s)))
      (λ m. inr (k.0, m, k.2, k.3, k.4))

  pub take_thin :
      (cs xs js : List Join)
      → Asc R xs → Asc R cs → ((x : Join) → In x xs → In x cs) → ((c : Join) → In c cs → Cover R xs js c)
      → Sound cs → Sound js → take_arcs cs js ≡ take_arcs xs js
  take_thin [] [] js a b i f s t = refl
  take_thin [] (x ∷ xs) js a b i f s t = absurd (Memᴰ.not-nil (i x (here refl)))
  take_thin (c ∷ cs) [] js a b i f s t =
      rw (cover_refused c [] js (λ x m. absurd (Memᴰ.not-nil m)) (f c (here refl)))
      (take_thin cs [] js a b.1 (λ x m. absurd (Memᴰ.not-nil m)) (λ d m. f d (there m)) (λ k m. s k (there m)) t)
  take_thin (c ∷ cs) (x ∷ xs) js a b i f s t =
      by_in (i x (here refl))
      (λ e.
      rw e
      (take_thin cs xs (take_arc c js) a.1 b.1 (λ y m. later c y cs (rw e at (a.0 y m)) (i y (there m)))
      (λ d m. cover_take c d xs js (s c (here refl)) t (rw e at (f d (there m))))
      (λ k m. s k (there m)) (sound_arc c js (s c (here refl)) t)))
      (λ m.
      let h : (y : Join) → In y (x ∷ xs) → R c y = λ y k. by_in k (λ e. rw e (b.0 x m)) (λ n. trans c x y (b.0 x m) (a.0 y n)) in
      rw (cover_refused c (x ∷ xs) js h (f c (here refl)))
      (take_thin cs (x ∷ xs) js a b.1 (λ y k. later c y cs (h y k) (i y k)) (λ d k. f d (there k)) (λ k m. s k (there m)) t))
