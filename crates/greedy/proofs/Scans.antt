-- One visit of the walk as a scan of two lists.
-- The waiting slips are the enders without a right neighbour. They ascend, so at most one is the last of the chain that r begins, and the
-- lowest, or else the second lowest, is the first that is not.
use mathlib.Core.Path.{◌≡◌, refl, sym, ap, ◌∙◌}
use mathlib.Core.Bool.{Bool, true, false, cond, ◌&&◌, not, and-true, and-false}
use mathlib.Core.List.{List, [], ◌∷◌, ◌++◌}
use mathlib.Core.Logic.{inl, inr}
use Prim.Native.Nat.{ℕ, ◌≤◌, ◌<◌}
use native.Mathlib.Omega.{arith}
use lib.Dec.{eqb}
use lib.ListN.{length}
use borrow.Author.Tests.{eqb-true, eq-eqb, ne_eqb}
use Rattle.words.specs.Lists.{head_or, tail_of}
use Rattle.words.specs.Words.{begins, ends_properly}
use Rattle.words.proofs.Tests.{tell}
use Rattle.words.proofs.Members.{In, Asc, those-yes, those_no, those_append, asc_those}
use Rattle.words.proofs.Picks.{those-same, those_none, those_all, those-and}
use Rattle.trays.specs.Slips.{slip}
use Rattle.greedy.specs.Joins.{Join, right_of, last_of}
use Rattle.greedy.specs.Walk.{waiting, behind, visit}
pub use Rattle.greedy.specs.Steps.Scans.{enders, starters, first, first_free, partner, beyond, offer, scan}

cond_same : {A : Type 0} (b : Bool) (a : A) → cond b a a ≡ a
cond_same true a = refl
cond_same false a = refl

beyond-here : (m l : ℕ) (ls : List ℕ) → eqb l m ≡ true → beyond m (l ∷ ls) ≡ ls
beyond-here m l ls e = rw (e, beyond)

beyond_past : (m l : ℕ) (ls : List ℕ) → eqb l m ≡ false → beyond m (l ∷ ls) ≡ beyond m ls
beyond_past m l ls e = rw (e, beyond)

-- none of the members behind the first is the first
asc_not : (m l : ℕ) (ls : List ℕ) → eqb l m ≡ true → Asc ◌<◌ (l ∷ ls) → (k : ℕ) → In k ls → eqb k m ≡ false
asc_not m l ls e p k i = ne_eqb k m (λ h. omega (arith, p.0 k i, eqb-true l m e))

-- the lowest, or if that is m the second lowest, is the first that is not m
second_first : (m : ℕ) (ws : List ℕ) → Asc ◌<◌ ws
    → cond (eqb (head_or 0 ws) m) (head_or 0 (tail_of ws)) (head_or 0 ws) ≡ first (λ l. not (eqb l m)) ws
second_first m [] p = cond_same (eqb 0 m) 0
second_first m (w ∷ ws) p =
    let t : ℕ → Bool = λ l. not (eqb l m) in
    elim (tell (eqb w m)) [
      | inl e ↦ rw (e, those_no t w ws (rw e), those_all t ws (λ k i. rw (asc_not m w ws e p k i)))
      | inr n ↦ rw (n, those-yes t w ws (rw n))
    ]

module _ (ss : List (List ℕ)) (x : List ℕ) (K : List ℕ) (asc : Asc ◌<◌ K) where
  pub behind-partner : (r : ℕ) (js : List Join) → behind r (waiting ss x K js) js ≡ partner (enders ss x K) (last_of r js) js
  behind-partner r js =
      let m = last_of r js in
      let wait : ℕ → Bool = λ i. eqb (right_of i js) 0 in
      second_first m (waiting ss x K js) (asc_those ◌<◌ (λ i. ends_properly x (slip ss i) && wait i) K asc)
      ∙ ap (λ ls. first (λ l. not (eqb l m)) ls) (those-and (λ i. ends_properly x (slip ss i)) wait K)
      ∙ ap (head_or 0) (sym (those-and wait (λ l. not (eqb l m)) (enders ss x K)))

  pub visit-scan : (rs : List ℕ) (js : List Join) → visit ss K x rs js ≡ scan (enders ss x K) (length x) (starters ss x rs) js
  visit-scan [] js = refl
  visit-scan (r ∷ rs) js =
      let t : ℕ → Bool = λ r. begins x (slip ss r) in
      elim (tell (t r)) [
        | inl y ↦ rw (those-yes t r rs y, y, behind-partner r js) (visit-scan rs (offer (enders ss x K) (length x) r js))
        | inr n ↦ rw (those_no t r rs n, n) (visit-scan rs js)
      ]

module _ (m : ℕ) (js : List Join) where
  abbrev test : ℕ → Bool
  test l = eqb (right_of l js) 0 && not (eqb l m)

  abbrev free : ℕ → Bool
  free l = eqb (right_of l js) 0

  partner_other : (ls : List ℕ) → ((k : ℕ) → In k ls → eqb k m ≡ false) → partner ls m js ≡ first_free js ls
  partner_other ls h = ap (head_or 0) (those-same test free ls (λ k i. rw (h k i) (and-true (free k))))

  pub partner_hit : (l : ℕ) (ls : List ℕ) → right_of l js ≡ 0 → (l ≡ m → ⊥) → partner (l ∷ ls) m js ≡ l
  partner_hit l ls e ne = ap (head_or 0) (those-yes test l ls (rw (eq-eqb (right_of l js) 0 e, ne_eqb l m ne)))

  pub partner_last : (l : ℕ) (ls : List ℕ) → l ≡ m → partner (l ∷ ls) m js ≡ partner ls m js
  partner_last l ls e = ap (head_or 0) (those_no test l ls (rw (eq-eqb l m e) (and-false (eqb (right_of l js) 0))))

  pub partner_spent : (fs ls : List ℕ) → ((l : ℕ) → In l fs → 1 ≤ right_of l js) → partner (fs ++ ls) m js ≡ partner ls m js
  partner_spent fs ls h =
      rw (those_append test fs ls, those_none test fs (λ l i. rw (ne_eqb (right_of l js) 0 (λ e. omega (arith, h l i)))))

  pub partner-free : (ls : List ℕ) → Asc ◌<◌ ls → partner ls m js ≡ cond (eqb (first_free js ls) m) (first_free js (beyond m ls)) (first_free js ls)
  partner-free [] p = sym (cond_same (eqb 0 m) 0)
  partner-free (l ∷ ls) p =
      elim (tell (free l)) [
        | inl f ↦ elim (tell (eqb l m)) [
          | inl e ↦ rw (beyond-here m l ls e, those-yes free l ls f, e) (partner_last l ls (eqb-true l m e) ∙ partner_other ls (asc_not m l ls e p))
          | inr n ↦ rw (those-yes free l ls f, n, those-yes test l ls (rw (f, n)))
        ]
        | inr f ↦ rw (those_no free l ls f, those_no test l ls (rw f)) (elim (tell (eqb l m)) [
          | inl e ↦ rw (beyond-here m l ls e, partner_other ls (asc_not m l ls e p)) (sym (cond_same (eqb (first_free js ls) m) (first_free js ls)))
          | inr n ↦ rw (beyond_past m l ls n) (partner-free ls p.1)
        ])
      ]
