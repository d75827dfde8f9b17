-- Tables of chain ends: the last slip of a chain by its first, and the first by its last.
-- When w, the end of a chain, is joined to r, the first slip of another, the first of w's chain gets the last of r's as its last, and that
-- one the first of w's as its first. No other end changes.
use mathlib.Core.Path.{◌≡◌, refl, sym, ap, ◌∙◌}
use mathlib.Core.List.{List, [], ◌∷◌, ◌++◌}
use Prim.Native.Nat.{ℕ, ◌≤◌}
use native.Mathlib.Decide.{ℕ_discrete}
use native.Mathlib.Omega.{arith}
use borrow.Author.Tests.{eq-eqb, ne_eqb}
use Rattle.greedy.specs.Joins.{Join, join, right_of, left_of, last_of}
use Rattle.greedy.proofs.Linked.{Chained, left_joined, left_other, right_joined, right_other, last_joined, last_other}
pub use Rattle.greedy.specs.Steps.Linked.{Threads, put_at}

pub threads_none : Threads [] (λ i. i) (λ i. i)
threads_none = record { last_is = λ i z. refl; back = λ i z. refl; first-is = λ e z. (refl, refl) }

put_same : (f : ℕ → ℕ) (at v i : ℕ) → i ≡ at → put_at f at v i ≡ v
put_same f at v i e = rw (eq-eqb i at e)

put_other : (f : ℕ → ℕ) (at v i : ℕ) → (i ≡ at → ⊥) → put_at f at v i ≡ f i
put_other f at v i ne = rw (ne_eqb i at ne)

-- a join from an end w to a first slip r of another chain
module _
    (js : List Join) (lasts firsts : ℕ → ℕ) (w r o : ℕ) (L : Chained js) (T : Threads js lasts firsts)
    (hw : 1 ≤ w) (hr : 1 ≤ r) (ew : right_of w js ≡ 0) (er : left_of r js ≡ 0) (other : lasts r ≡ w → ⊥) where
  abbrev more : List Join
  more = js ++ (join w r o ∷ [])

  abbrev lasts' : ℕ → ℕ
  lasts' = put_at lasts (firsts w) (lasts r)

  abbrev firsts' : ℕ → ℕ
  firsts' = put_at firsts (lasts r) (firsts w)

  w_first : left_of (firsts w) js ≡ 0
  w_first = (T.first-is w ew).0

  w_last : lasts (firsts w) ≡ w
  w_last = (T.first-is w ew).1

  first_old : (i : ℕ) → left_of i more ≡ 0 → (i ≡ r → ⊥) × (left_of i js ≡ 0)
  first_old i z =
      let ne : i ≡ r → ⊥ = λ e. omega (arith, ap (λ k. left_of k more) e, left_joined js L w r o hw hr ew er) in
      (ne, sym (left_other js L w r o hw hr ew er i ne) ∙ z)

  end_old : (e : ℕ) → right_of e more ≡ 0 → (e ≡ w → ⊥) × (right_of e js ≡ 0)
  end_old e z =
      let ne : e ≡ w → ⊥ = λ q. omega (arith, ap (λ k. right_of k more) q, right_joined js L w r o hw hr ew er) in
      (ne, sym (right_other js L w r o hw hr ew er e ne) ∙ z)

  last_new : (i : ℕ) → left_of i more ≡ 0 → last_of i more ≡ lasts' i
  last_new i z =
      let (ne, y) = first_old i z in
      elim (ℕ_discrete i (firsts w)) [
        | yes q ↦
            last_joined js L w r o hw hr ew er i y ne (T.last_is i y ∙ ap lasts q ∙ w_last) (λ k. other (sym (T.last_is r er) ∙ k))
            ∙ T.last_is r er
            ∙ sym (put_same lasts (firsts w) (lasts r) i q)
        | no n ↦
            last_other js L w r o hw hr ew er i y (λ k. n (sym (T.back i y) ∙ ap firsts (sym (T.last_is i y) ∙ k)))
            ∙ T.last_is i y
            ∙ sym (put_other lasts (firsts w) (lasts r) i n)
      ]

  back_new : (i : ℕ) → left_of i more ≡ 0 → firsts' (lasts' i) ≡ i
  back_new i z =
      let (ne, y) = first_old i z in
      elim (ℕ_discrete i (firsts w)) [
        | yes q ↦
            ap firsts' (put_same lasts (firsts w) (lasts r) i q) ∙ put_same firsts (lasts r) (firsts w) (lasts r) refl ∙ sym q
        | no n ↦
            ap firsts' (put_other lasts (firsts w) (lasts r) i n)
            ∙ put_other firsts (lasts r) (firsts w) (lasts i) (λ k. ne (sym (T.back i y) ∙ ap firsts k ∙ T.back r er))
            ∙ T.back i y
      ]

  first_new : (e : ℕ) → right_of e more ≡ 0 → (left_of (firsts' e) more ≡ 0) × (lasts' (firsts' e) ≡ e)
  first_new e z =
      let (ne, y) = end_old e z in
      elim (ℕ_discrete e (lasts r)) [
        | yes q ↦
            let p = put_same firsts (lasts r) (firsts w) e q in
            let n : firsts w ≡ r → ⊥ = λ k. other (ap lasts (sym k) ∙ w_last) in (
              ap (λ x. left_of x more) p ∙ left_other js L w r o hw hr ew er (firsts w) n ∙ w_first,
              ap lasts' p ∙ put_same lasts (firsts w) (lasts r) (firsts w) refl ∙ sym q,
            )
        | no q ↦
            let p = put_other firsts (lasts r) (firsts w) e q in
            let (a, b) = T.first-is e y in (
              ap (λ x. left_of x more) p ∙ left_other js L w r o hw hr ew er (firsts e) (λ k. q (sym b ∙ ap lasts k)) ∙ a,
              ap lasts' p ∙ put_other lasts (firsts w) (lasts r) (firsts e) (λ k. ne (sym b ∙ ap lasts k ∙ w_last)) ∙ b,
            )
      ]

  pub threads_join : Threads (js ++ (join w r o ∷ [])) (put_at lasts (firsts w) (lasts r)) (put_at firsts (lasts r) (firsts w))
  threads_join = record { last_is = last_new; back = back_new; first-is = first_new }
