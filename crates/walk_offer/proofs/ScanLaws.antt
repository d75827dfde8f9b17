-- One visit as its functions make it: a search for the first slip that waits, a partner for a slip, an offer.
--   waiting-..   == the search passes a slip with a right neighbour and stops at one without
--   partner-..   == the lowest slip that waits, or the second lowest
--   offer-..     == an offer that makes no join, and one that does
--   scan-waiting == what the search has passed changes nothing in what is left of the visit
-- A slip that has a right neighbour has one after every further join, so it is no partner any more.
use mathlib.Core.Path.{◌≡◌, refl, sym, ap, ◌∙◌}
use mathlib.Core.Bool.{Bool, true, false, cond, ◌&&◌, not}
use mathlib.Core.List.Memᴰ
use mathlib.Core.List.{List, [], ◌∷◌, ◌++◌}
use mathlib.Core.Logic.{inl, inr}
use Prim.Native.Nat.{ℕ, ◌≤◌, ◌<◌}
use native.Mathlib.Omega.{arith}
use lib.Dec.{eqb, leb}
use lib.ListN.{length}
use borrow.Author.Tests.{eqb-true, eqb-false, eq-eqb, ne_eqb, le-leb}
use Rattle.words.specs.Lists.{those, head_or}
use Rattle.words.proofs.Tests.{tell, both}
use Rattle.words.proofs.Members.{In, Asc, those-yes, those_no, in_those}
use Rattle.words.proofs.Picks.{those-same}
use Rattle.greedy.specs.Joins.{Join, join, right_of, left_of, last_of}
use Rattle.greedy.proofs.Takes.{right_of_append}
use Rattle.greedy.proofs.Scans as S
use Rattle.walk_offer.specs.Steps.Runs.{mark, waiting_in}
use Rattle.walk_offer.specs.Steps.Offers.{partner_in, Waits}

-- the search
module _ (right : List ℕ) where
  pub waiting-stop : (l : ℕ) (ls : List ℕ) → mark right l ≡ 0 → waiting_in right (l ∷ ls) ≡ l ∷ ls
  waiting-stop l ls e = rw (eq-eqb (mark right l) 0 e, waiting_in)

  pub waiting_pass : (l : ℕ) (ls : List ℕ) → (mark right l ≡ 0 → ⊥) → waiting_in right (l ∷ ls) ≡ waiting_in right ls
  waiting_pass l ls n = rw (ne_eqb (mark right l) 0 n, waiting_in)

  pub waiting_twice : (ls : List ℕ) → Waits right (waiting_in right ls)
  waiting_twice [] = refl
  waiting_twice (l ∷ ls) =
      elim (tell (eqb (mark right l) 0)) [
        | inl e ↦ let q = waiting-stop l ls (eqb-true (mark right l) 0 e) in rw q q
        | inr e ↦ rw (waiting_pass l ls (eqb-false (mark right l) 0 e)) (waiting_twice ls)
      ]

  -- what stands first waits
  pub waits_first : (l : ℕ) (ls : List ℕ) → Waits right (l ∷ ls) → mark right l ≡ 0
  waits_first l ls h =
      elim (tell (eqb (mark right l) 0)) [
        | inl e ↦ eqb-true (mark right l) 0 e
        | inr e ↦
            let n = eqb-false (mark right l) 0 e in
            absurd (omega (arith, ap length (sym (waiting_pass l ls n) ∙ h), waiting_shorter ls))
      ]
    where
      waiting_shorter : (ls : List ℕ) → length (waiting_in right ls) ≤ length ls
      waiting_shorter [] = omega arith
      waiting_shorter (l ∷ ls) =
          elim (tell (eqb (mark right l) 0)) [
            | inl e ↦ rw (waiting-stop l ls (eqb-true (mark right l) 0 e)) (omega arith)
            | inr e ↦ omega (arith, ap length (waiting_pass l ls (eqb-false (mark right l) 0 e)), waiting_shorter ls)
          ]

  -- the partner
  module _ (m : ℕ) where
    abbrev test : ℕ → Bool
    test l = eqb (mark right l) 0 && not (eqb l m)

    pub partner-lowest : (l : ℕ) (ls : List ℕ) → Waits right (l ∷ ls) → (l ≡ m → ⊥) → partner_in right (l ∷ ls) m ≡ l
    partner-lowest l ls h n = ap (head_or 0) (those-yes test l ls (rw (eq-eqb (mark right l) 0 (waits_first l ls h), ne_eqb l m n)))

    -- a slip that is not among ls
    partner_other : (ls : List ℕ) → ((k : ℕ) → In k ls → k ≡ m → ⊥) → partner_in right ls m ≡ head_or 0 (waiting_in right ls)
    partner_other [] h = refl
    partner_other (l ∷ ls) h =
        let n = ne_eqb l m (h l (Memᴰ.head refl)) in
        elim (tell (eqb (mark right l) 0)) [
          | inl e ↦ ap (head_or 0) (those-yes test l ls (rw (e, n))) ∙ ap (head_or 0) (sym (waiting-stop l ls (eqb-true (mark right l) 0 e)))
          | inr e ↦
              ap (head_or 0) (those_no test l ls (rw e)) ∙ partner_other ls (λ k i. h k (Memᴰ.tail i))
              ∙ ap (head_or 0) (sym (waiting_pass l ls (eqb-false (mark right l) 0 e)))
        ]

    pub partner_second : (l : ℕ) (ls : List ℕ) → Asc ◌<◌ (l ∷ ls) → l ≡ m → partner_in right (l ∷ ls) m ≡ head_or 0 (waiting_in right ls)
    partner_second l ls a e =
        ap (head_or 0) (those_no test l ls (last l (eq-eqb l m e)))
        ∙ partner_other ls (λ k i q. omega (arith, a.0 k i))
      where
        last : (l : ℕ) → eqb l m ≡ true → test l ≡ false
        last l t = elim (tell (eqb (mark right l) 0)) [ inl f ↦ rw (f, t) | inr f ↦ rw f ]

    -- a partner stands in the list, waits and is not m
    pub partner-among : (ls : List ℕ) → (partner_in right ls m ≡ 0 → ⊥)
        → In (partner_in right ls m) ls × (mark right (partner_in right ls m) ≡ 0) × (partner_in right ls m ≡ m → ⊥)
    partner-among ls h =
        let p = partner_in right ls m in
        let (i, t) = in_those test ls (head_in (those test ls) h) in
        let (a, b) = both (eqb (mark right p) 0) (not (eqb p m)) t in
        (i, eqb-true (mark right p) 0 a, eqb-false p m (unnot (eqb p m) b))
      where
        head_in : (xs : List ℕ) → (head_or 0 xs ≡ 0 → ⊥) → In (head_or 0 xs) xs
        head_in [] n = absurd (n refl)
        head_in (x ∷ xs) n = Memᴰ.head refl

        unnot : (b : Bool) → not b ≡ true → b ≡ false
        unnot true e = sym e
        unnot false e = refl

-- the marks are those of the joins
module _ (right : List ℕ) (js : List Join) where
  abbrev pub MarksOf : List ℕ → Type 0
  MarksOf ls = (l : ℕ) → In l ls → mark right l ≡ right_of l js

  pub partner_marks : (ls : List ℕ) (m : ℕ) → MarksOf ls → partner_in right ls m ≡ S.partner ls m js
  partner_marks ls m h =
      ap (head_or 0) (those-same (λ l. eqb (mark right l) 0 && not (eqb l m)) (λ l. eqb (right_of l js) 0 && not (eqb l m)) ls
      (λ l i. ap (λ x. eqb x 0 && not (eqb l m)) (h l i)))

-- an offer
module _ (ls : List ℕ) (d r : ℕ) (js : List Join) where
  pub offer_taken : (left_of r js ≡ 0 → ⊥) → S.offer ls d r js ≡ js
  offer_taken n = rw (ne_eqb (left_of r js) 0 n)

  pub offer_none : S.partner ls (last_of r js) js ≡ 0 → S.offer ls d r js ≡ js
  offer_none e = rw e (no_join (eqb (left_of r js) 0))
    where
      no_join : (b : Bool) → cond (b && false) (js ++ (join 0 r d ∷ [])) js ≡ js
      no_join true = refl
      no_join false = refl

  pub offer_made : (l : ℕ) → left_of r js ≡ 0 → l ≡ S.partner ls (last_of r js) js → (l ≡ 0 → ⊥) → S.offer ls d r js ≡ js ++ (join l r d ∷ [])
  offer_made l z e n = rw (← e, eq-eqb (left_of r js) 0 z, le-leb 1 l (omega arith))

-- a slip that has a right neighbour is passed for good
offer-kept : (ls : List ℕ) (d r : ℕ) (js : List Join) (l : ℕ) → 1 ≤ right_of l js → 1 ≤ right_of l (S.offer ls d r js)
offer-kept ls d r js l h =
    kept (eqb (left_of r js) 0 && leb 1 (S.partner ls (last_of r js) js)) (join (S.partner ls (last_of r js) js) r d)
  where
    kept : (b : Bool) (j : Join) → 1 ≤ right_of l (cond b (js ++ (j ∷ [])) js)
    kept true j = rw (right_of_append l js (j ∷ []) h) h
    kept false j = h

scan_pass : (l : ℕ) (ls : List ℕ) (d : ℕ) (rs : List ℕ) (js : List Join) → 1 ≤ right_of l js → S.scan (l ∷ ls) d rs js ≡ S.scan ls d rs js
scan_pass l ls d [] js h = refl
scan_pass l ls d (r ∷ rs) js h =
    let e : S.offer (l ∷ ls) d r js ≡ S.offer ls d r js =
    ap (λ p. cond (eqb (left_of r js) 0 && leb 1 p) (js ++ (join p r d ∷ [])) js)
    (S.partner_spent (last_of r js) js (l ∷ []) ls (λ k i. only_one k i)) in
    ap (S.scan (l ∷ ls) d rs) e ∙ scan_pass l ls d rs (S.offer ls d r js) (offer-kept ls d r js l h)
  where
    only_one : (k : ℕ) → In k (l ∷ []) → 1 ≤ right_of k js
    only_one k (Memᴰ.head e) = rw e h
    only_one k (Memᴰ.tail i) = absurd (Memᴰ.not-nil i)

pub scan-waiting : (right : List ℕ) (js : List Join) (ls : List ℕ) (d : ℕ) (rs : List ℕ) → MarksOf right js ls →
    S.scan ls d rs js ≡ S.scan (waiting_in right ls) d rs js
scan-waiting right js [] d rs h = refl
scan-waiting right js (l ∷ ls) d rs h =
    elim (tell (eqb (mark right l) 0)) [
      | inl e ↦ rw (waiting-stop right l ls (eqb-true (mark right l) 0 e))
      | inr e ↦
          let n = eqb-false (mark right l) 0 e in
          let some : 1 ≤ right_of l js = rw (h l (Memᴰ.head refl)) at (positive (mark right l) n) in
          rw (waiting_pass right l ls n) (scan_pass l ls d rs js some ∙ scan-waiting right js ls d rs (λ k i. h k (Memᴰ.tail i)))
    ]
  where
    positive : (n : ℕ) → (n ≡ 0 → ⊥) → 1 ≤ n
    positive n h = omega arith
