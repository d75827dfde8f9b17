-- Joins followed from a first slip.
--   Apart a b      == the joins a and b have different left slips and different right slips
--   without i js   == the joins but the one from slip i
-- A slip without a left neighbour is no slip's right neighbour, so following the joins from it never comes back: it goes on as without the
-- join from that slip, and ends after at most as many steps as there are joins. A join from an end w to a first slip r leads on from w to the
-- last slip of r's chain, and changes no other end.
use mathlib.Core.Path.{◌≡◌, refl, sym, ap, ◌∙◌}
use mathlib.Core.Bool.{Bool, true, false, not}
use mathlib.Core.List.Memᴰ.{head as here}
use mathlib.Core.List.Memᴰ.{tail as there}
use mathlib.Core.List.{List, [], ◌∷◌, ◌++◌}
use mathlib.Core.List.Memᴰ
use mathlib.Core.Logic.{inl, inr}
use Prim.Native.Nat.{ℕ, zero, suc, ◌+◌, ◌≤◌, ◌<◌}
use native.Mathlib.Omega.{arith}
use lib.Dec.{eqb}
use lib.ListN.{length, length-append}
use borrow.Author.Tests.{eqb-true, eqb-false, eq-eqb, ne_eqb, not-true}
use Rattle.words.specs.Lists.{those}
use Rattle.words.proofs.Tests.{tell}
use Rattle.words.proofs.Members.{In, by_in, Asc, those-yes, those_no, in_those, asc_those, asc_append}
use Rattle.greedy.specs.Joins.{Join, join, right_of, left_of, last_from, last_of}
use Rattle.greedy.proofs.Takes.{by_zero, right_of_append, left_of_append, last_stop, last_go, last_from_append}
pub use Rattle.greedy.specs.Steps.Linked.{Apart, Chained}

pub linked_none : Chained []
linked_none = record { real = λ j m. absurd (Memᴰ.not-nil m); apart = tt }

right_of-here : (i : ℕ) (j : Join) (js : List Join) → eqb i j.left ≡ true → right_of i (j ∷ js) ≡ j.right
right_of-here i j js e = rw (e, right_of)

right_of-there : (i : ℕ) (j : Join) (js : List Join) → eqb i j.left ≡ false → right_of i (j ∷ js) ≡ right_of i js
right_of-there i j js e = rw (e, right_of)

left_of-here : (i : ℕ) (j : Join) (js : List Join) → eqb i j.right ≡ true → left_of i (j ∷ js) ≡ j.left
left_of-here i j js e = rw (e, left_of)

left_of-there : (i : ℕ) (j : Join) (js : List Join) → eqb i j.right ≡ false → left_of i (j ∷ js) ≡ left_of i js
left_of-there i j js e = rw (e, left_of)

abbrev Real : List Join → Type 0
Real js = (j : Join) → In j js → (1 ≤ j.left) × (1 ≤ j.right)

-- a neighbour comes from a join
right_of_in : (i : ℕ) (js : List Join) → 1 ≤ right_of i js → (j : Join) × In j js × (j.left ≡ i) × (j.right ≡ right_of i js)
right_of_in i [] h = absurd (omega arith)
right_of_in i (j ∷ js) h =
    elim (tell (eqb i j.left)) [
      | inl e ↦ (j, here refl, sym (eqb-true i j.left e), sym (right_of-here i j js e))
      | inr e ↦
          let (k, m, l, r) = right_of_in i js (rw (right_of-there i j js e) at h) in
          (k, there m, l, r ∙ sym (right_of-there i j js e))
    ]

left_of_in : (i : ℕ) (js : List Join) → 1 ≤ left_of i js → (j : Join) × In j js × (j.right ≡ i)
left_of_in i [] h = absurd (omega arith)
left_of_in i (j ∷ js) h =
    elim (tell (eqb i j.right)) [
      | inl e ↦ (j, here refl, sym (eqb-true i j.right e))
      | inr e ↦ let (k, m, r) = left_of_in i js (rw (left_of-there i j js e) at h) in (k, there m, r)
    ]

-- and a join makes neighbours
in_left_of : (js : List Join) → Real js → (j : Join) → In j js → 1 ≤ left_of j.right js
in_left_of [] R j m = absurd (Memᴰ.not-nil m)
in_left_of (k ∷ js) R j m =
    elim (tell (eqb j.right k.right)) [
      | inl e ↦ rw (left_of-here j.right k js e) (R k (here refl)).0
      | inr e ↦
          rw (left_of-there j.right k js e)
          (by_in m (λ q. absurd (eqb-false j.right k.right e (ap (λ x. x.right) q))) (in_left_of js (λ x i. R x (there i)) j))
    ]

in_right_of : (js : List Join) → Real js → (j : Join) → In j js → 1 ≤ right_of j.left js
in_right_of [] R j m = absurd (Memᴰ.not-nil m)
in_right_of (k ∷ js) R j m =
    elim (tell (eqb j.left k.left)) [
      | inl e ↦ rw (right_of-here j.left k js e) (R k (here refl)).1
      | inr e ↦
          rw (right_of-there j.left k js e)
          (by_in m (λ q. absurd (eqb-false j.left k.left e (ap (λ x. x.left) q))) (in_right_of js (λ x i. R x (there i)) j))
    ]

one_left : (a b : Join) (js : List Join) → Asc Apart js → In a js → In b js → a.right ≡ b.right → a.left ≡ b.left
one_left a b [] p m n e = absurd (Memᴰ.not-nil m)
one_left a b (j ∷ js) p m n e =
    by_in m
    (λ q. by_in n (λ r. ap (λ x. x.left) (q ∙ sym r)) (λ i. absurd ((p.0 b i).1 (ap (λ x. x.right) (sym q) ∙ e))))
    (λ k. by_in n (λ r. absurd ((p.0 a k).1 (ap (λ x. x.right) (sym r) ∙ sym e))) (λ i. one_left a b js p.1 k i e))

head_not : (i y : ℕ) (js : List Join) → Real js → left_of i js ≡ 0 → 1 ≤ right_of y js → right_of y js ≡ i → ⊥
head_not i y js R z h e =
    let (j, m, l, r) = right_of_in y js h in
    let k : 1 ≤ left_of i js = rw (r ∙ e) at (in_left_of js R j m) in
    omega arith

-- the joins without the one from i
abbrev without : ℕ → List Join → List Join
without i js = those (λ j. not (eqb j.left i)) js

linked_without : (i : ℕ) (js : List Join) → Chained js → Chained (without i js)
linked_without i js L =
    record {
      real = λ j m. L.real j (in_those (λ j. not (eqb j.left i)) js m).0;
      apart = asc_those Apart (λ j. not (eqb j.left i)) js L.apart;
    }

module _ (i : ℕ) where
  abbrev stays : Join → Bool
  stays j = not (eqb j.left i)

  by-without : {P : Type 0} (j : Join) (js : List Join) → (j.left ≡ i → without i (j ∷ js) ≡ without i js → P)
      → ((j.left ≡ i → ⊥) → without i (j ∷ js) ≡ j ∷ without i js → P) → P
  by-without j js f g =
      elim (tell (eqb j.left i)) [
        | inl e ↦ f (eqb-true j.left i e) (those_no stays j js (rw e))
        | inr e ↦ g (eqb-false j.left i e) (those-yes stays j js (rw e))
      ]

  right_of-without : (y : ℕ) (js : List Join) → (y ≡ i → ⊥) → right_of y (without i js) ≡ right_of y js
  right_of-without y [] ne = refl
  right_of-without y (j ∷ js) ne =
      let r = right_of-without y js ne in
      by-without j js
      (λ e q. rw q (r ∙ sym (right_of-there y j js (ne_eqb y j.left (λ k. ne (k ∙ e))))))
      (λ e q. rw q (elim (tell (eqb y j.left)) [
        | inl t ↦ right_of-here y j (without i js) t ∙ sym (right_of-here y j js t)
        | inr t ↦ right_of-there y j (without i js) t ∙ r ∙ sym (right_of-there y j js t)
      ]))

  length_without : (js : List Join) → length (without i js) ≤ length js
  length_without [] = omega arith
  length_without (j ∷ js) =
      by-without j js (λ e q. omega (arith, ap length q, length_without js)) (λ e q. omega (arith, ap length q, length_without js))

  shorter_without : (js : List Join) → 1 ≤ right_of i js → length (without i js) < length js
  shorter_without [] h = absurd (omega arith)
  shorter_without (j ∷ js) h =
      by-without j js
      (λ e q. omega (arith, ap length q, length_without js))
      (λ e q. omega (arith, ap length q, shorter_without js (rw (right_of-there i j js (ne_eqb i j.left (λ k. e (sym k)))) at h)))

  -- from a slip that is not i, where i is no right neighbour, the joins lead never to i
  last_without :
      (n x : ℕ) (js : List Join) → Real js → left_of i js ≡ 0 → (x ≡ i → ⊥)
      → (last_from n x (without i js) ≡ last_from n x js) × (last_from n x js ≡ i → ⊥)
  last_without zero x js R z ne = (refl, ne)
  last_without (suc n) x js R z ne =
      let q = right_of-without x js ne in
      by_zero (right_of x js)
      (λ e. let s = last_stop (suc n) x js e in (last_stop (suc n) x (without i js) (q ∙ e) ∙ sym s, rw s ne))
      (λ h.
      let s = last_go n x js h in
      let t : last_from (suc n) x (without i js) ≡ last_from n (right_of x js) (without i js) =
      last_go n x (without i js) (rw q h) ∙ ap (λ y. last_from n y (without i js)) q in
      let r = last_without n (right_of x js) js R z (head_not i x js R z h) in
      (t ∙ r.0 ∙ sym s, rw s r.1))

-- without the join from i its right slip is a first one
next_first : (i : ℕ) (js : List Join) → Chained js → 1 ≤ right_of i js → left_of (right_of i js) (without i js) ≡ 0
next_first i js L k =
    by_zero (left_of (right_of i js) (without i js))
    (λ e. e)
    (λ h.
    let (j, m, e) = left_of_in (right_of i js) (without i js) h in
    let (n, t) = in_those (stays i) js m in
    let (b, o, l, r) = right_of_in i js k in
    absurd (eqb-false j.left i (not-true (eqb j.left i) t) (one_left j b js L.apart n o (e ∙ sym r) ∙ l)))

-- a chain followed from its first slip comes to an end
pub head_ends : (n i : ℕ) (js : List Join) → length js ≤ n → Chained js → left_of i js ≡ 0 → right_of (last_from n i js) js ≡ 0
head_ends zero i [] h L z = refl
head_ends zero i (j ∷ js) h L z = absurd (omega arith)
head_ends (suc n) i js h L z =
    by_zero (right_of i js)
    (λ e. rw (last_stop (suc n) i js e) e)
    (λ k.
    let x = right_of i js in
    let r = last_without i n x js L.real z (head_not i i js L.real z k) in
    let ih = head_ends n x (without i js) (omega (arith, shorter_without i js k)) (linked_without i js L) (next_first i js L k) in
    rw (last_go n i js k) (sym (right_of-without i (last_from n x js) js r.1) ∙ sym (ap (λ y. right_of y (without i js)) r.0) ∙ ih))

last_then : (n m i : ℕ) (js : List Join) → last_from (n + m) i js ≡ last_from m (last_from n i js) js
last_then zero m i js = let e : 0 + m ≡ m = omega arith in ap (λ k. last_from k i js) e
last_then (suc n) m i js =
    let e : suc n + m ≡ suc (n + m) = omega arith in
    ap (λ k. last_from k i js) e
    ∙ by_zero (right_of i js)
    (λ z. last_stop (suc (n + m)) i js z ∙ sym (last_stop m i js z) ∙ ap (λ x. last_from m x js) (sym (last_stop (suc n) i js z)))
    (λ h. last_go (n + m) i js h ∙ last_then n m (right_of i js) js ∙ ap (λ x. last_from m x js) (sym (last_go n i js h)))

last_one : (n m i : ℕ) (js : List Join) → right_of (last_from n i js) js ≡ 0 → right_of (last_from m i js) js ≡ 0 → last_from n i js ≡ last_from m i js
last_one n m i js p q =
    let e : n + m ≡ m + n = omega arith in
    sym (last_stop m (last_from n i js) js p) ∙ sym (last_then n m i js) ∙ ap (λ k. last_from k i js) e
    ∙ last_then m n i js ∙ last_stop n (last_from m i js) js q

length_more : (js : List Join) (a : Join) → length (js ++ (a ∷ [])) ≡ suc (length js)
length_more js a = omega (arith, length-append js (a ∷ []))

right_of_past : (i : ℕ) (js ks : List Join) → Real js → right_of i js ≡ 0 → right_of i (js ++ ks) ≡ right_of i ks
right_of_past i [] ks R z = refl
right_of_past i (j ∷ js) ks R z =
    elim (tell (eqb i j.left)) [
      | inl e ↦ absurd (omega (arith, right_of-here i j js e, R j (here refl)))
      | inr e ↦ right_of-there i j (js ++ ks) e ∙ right_of_past i js ks (λ x m. R x (there m)) (sym (right_of-there i j js e) ∙ z)
    ]

left_of_past : (i : ℕ) (js ks : List Join) → Real js → left_of i js ≡ 0 → left_of i (js ++ ks) ≡ left_of i ks
left_of_past i [] ks R z = refl
left_of_past i (j ∷ js) ks R z =
    elim (tell (eqb i j.right)) [
      | inl e ↦ absurd (omega (arith, left_of-here i j js e, R j (here refl)))
      | inr e ↦ left_of-there i j (js ++ ks) e ∙ left_of_past i js ks (λ x m. R x (there m)) (sym (left_of-there i j js e) ∙ z)
    ]

-- a join from an end w to a first slip r
module _ (js : List Join) (L : Chained js) (w r o : ℕ) (hw : 1 ≤ w) (hr : 1 ≤ r) (ew : right_of w js ≡ 0) (er : left_of r js ≡ 0) where
  abbrev new : Join
  new = join w r o

  abbrev more : List Join
  more = js ++ (new ∷ [])

  pub linked_more : Chained more
  linked_more =
      record {
        real = λ j m. elim (Memᴰ.append_cases js m) [ inl i ↦ L.real j i | inr i ↦ rw (Memᴰ.eq_of_singleton i) (hw, hr) ];
        apart =
            asc_append Apart js (new ∷ []) L.apart ((λ y m. absurd (Memᴰ.not-nil m)), tt)
            (λ b c i m. let q = Memᴰ.eq_of_singleton m in (
              (λ e. omega (arith, in_right_of js L.real b i, ap (λ k. right_of k js) (e ∙ ap (λ x. x.left) q))),
              (λ e. omega (arith, in_left_of js L.real b i, ap (λ k. left_of k js) (e ∙ ap (λ x. x.right) q))),
            ));
      }

  pub right_joined : right_of w more ≡ r
  right_joined = right_of_past w js (new ∷ []) L.real ew ∙ right_of-here w new [] (eq-eqb w w refl)

  pub right_other : (i : ℕ) → (i ≡ w → ⊥) → right_of i more ≡ right_of i js
  right_other i ne =
      by_zero (right_of i js)
      (λ z. right_of_past i js (new ∷ []) L.real z ∙ right_of-there i new [] (ne_eqb i w ne) ∙ sym z)
      (right_of_append i js (new ∷ []))

  pub left_joined : left_of r more ≡ w
  left_joined = left_of_past r js (new ∷ []) L.real er ∙ left_of-here r new [] (eq-eqb r r refl)

  pub left_other : (i : ℕ) → (i ≡ r → ⊥) → left_of i more ≡ left_of i js
  left_other i ne =
      by_zero (left_of i js)
      (λ z. left_of_past i js (new ∷ []) L.real z ∙ left_of-there i new [] (ne_eqb i r ne) ∙ sym z)
      (left_of_append i js (new ∷ []))

  -- the steps to w are made again
  reach : (n i : ℕ) → last_from n i js ≡ w → (k : ℕ) × (last_from k i more ≡ w)
  reach zero i e = (0, e)
  reach (suc n) i e =
      by_zero (right_of i js)
      (λ z. (0, sym (last_stop (suc n) i js z) ∙ e))
      (λ h.
      let (k, q) = reach n (right_of i js) (sym (last_go n i js h) ∙ e) in
      let g = right_of_append i js (new ∷ []) h in
      (suc k, last_go k i more (rw g h) ∙ ap (λ x. last_from k x more) g ∙ q))

  -- a chain that does not end in w keeps its end
  end_other : (i : ℕ) → left_of i js ≡ 0 → (last_of i js ≡ w → ⊥) → right_of (last_of i js) more ≡ 0
  end_other i z ne = right_other (last_of i js) ne ∙ head_ends (length js) i js (omega arith) L z

  pub last_other : (i : ℕ) → left_of i js ≡ 0 → (last_of i js ≡ w → ⊥) → last_of i more ≡ last_of i js
  last_other i z ne =
      ap (λ k. last_from k i more) (length_more js new) ∙ last_from_append (length js) i (last_of i js) js (new ∷ []) refl (end_other i z ne)

  pub last_joined : (i : ℕ) → left_of i js ≡ 0 → (i ≡ r → ⊥) → last_of i js ≡ w → (last_of r js ≡ w → ⊥) → last_of i more ≡ last_of r js
  last_joined i z ne e nr =
      let n = suc (length js) in
      let (k, q) = reach (length js) i e in
      let end = end_other r er nr in
      let on : last_from (suc n) w more ≡ last_of r js =
      last_go n w more (rw right_joined hr) ∙ ap (λ x. last_from n x more) right_joined
      ∙ last_from_append (length js) r (last_of r js) js (new ∷ []) refl end in
      let there : last_from (k + suc n) i more ≡ last_of r js = last_then k (suc n) i more ∙ ap (λ x. last_from (suc n) x more) q ∙ on in
      let ends = head_ends (length more) i more (omega arith) linked_more (left_other i ne ∙ z) in
      last_one (length more) (k + suc n) i more ends (rw there end) ∙ there
