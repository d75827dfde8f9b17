-- The walk takes arcs: its candidates, in the order of the visits.
--   tie ss x r l      == the candidate at the beginning x of the pair l, r, if x begins slip r and properly ends slip l
--   ties_to ss K x r   == the candidates at x with right slip r and left slip in K
--   ties ss K rs x    == the candidates at x with right slip in rs and left slip in K
--   Tied ss x c       == c is a candidate at x
-- Waiting slips are different, so at most one is the last of the chain that r begins: the lowest, or else the second lowest, is the
-- first that the plain rule's test lets through. After that r has a left neighbour, and its other candidates are refused.
use mathlib.Core.Path.{◌≡◌, refl, sym, ap, ◌∙◌}
use mathlib.Core.Bool.{Bool, true, false, cond, ◌&&◌}
use mathlib.Core.List.Memᴰ.{head as here}
use mathlib.Core.List.Memᴰ.{tail as there}
use mathlib.Core.List.{List, [], ◌∷◌, ◌++◌}
use mathlib.Core.Logic.{◌⊎◌, inl, inr}
use Prim.Native.Nat.{ℕ, ◌≤◌, ◌<◌}
use native.Mathlib.Omega.{arith}
use lib.Dec.{eqb, leb}
use lib.ListN.{length}
use borrow.Author.Tests.{eqb-true, eqb-false, ne_eqb, le-leb}
use Rattle.words.specs.Lists.{each, head_or}
use Rattle.words.specs.Words.{begins, ends_properly}
use Rattle.words.proofs.Tests.{tell, both, not_both}
use Rattle.words.proofs.Members.{In, Asc, in_each, each_in, in_those, those-yes, those_no}
use Rattle.trays.specs.Slips.{slip}
use Rattle.greedy.specs.Joins.{Join, join, right_of, left_of, last_of, free, take_arcs}
use Rattle.greedy.specs.Walk.{waiting, behind, visit_slip, visit, walk_from}
use Rattle.greedy.proofs.Takes.{Sound, by_zero, some-eqb, in_cond, left_of_joined, refused_right}
use Rattle.greedy.proofs.Takes.{refused_left, refused_last, take_append, take_none, sound_take}

-- 0, or a member
head_or_in : (ws : List ℕ) → (head_or 0 ws ≡ 0) ⊎ In (head_or 0 ws) ws
head_or_in [] = inl refl
head_or_in (w ∷ ws) = inr (here refl)

abbrev pub tie : List (List ℕ) → List ℕ → ℕ → ℕ → List Join
tie ss x r l = cond (begins x (slip ss r) && ends_properly x (slip ss l)) (join l r (length x) ∷ []) []

abbrev pub ties_to : List (List ℕ) → List ℕ → List ℕ → ℕ → List Join
ties_to ss K x r = each (tie ss x r) K

abbrev pub ties : List (List ℕ) → List ℕ → List ℕ → List ℕ → List Join
ties ss K rs x = each (ties_to ss K x) rs

pub record Tied (ss : List (List ℕ)) (x : List ℕ) (c : Join) : Type 0 where
  pub starts : begins x (slip ss c.right) ≡ true
  pub ends : ends_properly x (slip ss c.left) ≡ true
  pub size : c.overlap ≡ length x

module _ (ss : List (List ℕ)) (x : List ℕ) (r : ℕ) where
  pub in_tie : (l : ℕ) (c : Join) → In c (tie ss x r l) → (c.left ≡ l) × (c.right ≡ r) × Tied ss x c
  in_tie l c m =
      let (b, e) = in_cond (begins x (slip ss r) && ends_properly x (slip ss l)) m in
      let (p, q) = both (begins x (slip ss r)) (ends_properly x (slip ss l)) b in
      rw e (refl, refl, record { starts = p; ends = q; size = refl })

  pub in_ties_to : (K : List ℕ) (c : Join) → In c (ties_to ss K x r) → In c.left K × (c.right ≡ r) × Tied ss x c
  in_ties_to K c m =
      let (l, i, t) = in_each (tie ss x r) K m in
      let (e, f, d) = in_tie l c t in
      (rw e i, f, d)

  tie_spent : (K : List ℕ) (js : List Join) → 1 ≤ left_of r js → take_arcs (ties_to ss K x r) js ≡ js
  tie_spent K js h = take_none (ties_to ss K x r) js (λ c m. rw (in_ties_to K c m).1 (refused_left c.left r js h))

  abbrev joined : ℕ → List Join → List Join
  joined l js = cond (leb 1 l) (js ++ (join l r (length x) ∷ [])) js

  -- a candidate that is refused may be left out
  tie_idle :
      (l : ℕ) (cs js : List Join) → (ends_properly x (slip ss l) ≡ true → free l r js ≡ false)
      → take_arcs (tie ss x r l ++ cs) js ≡ take_arcs cs js
  tie_idle l cs js h =
      take_append (tie ss x r l) cs js
      ∙ rw (take_none (tie ss x r l) js (λ c m. let (e, f, t) = in_tie l c m in rw (e, f) (h (rw e at t.ends))))

  head_or-waiting : (l : ℕ) (K : List ℕ) (js : List Join) → 1 ≤ l → ((k : ℕ) → In k K → l < k) → eqb (head_or 0 (waiting ss x K js)) l ≡ false
  head_or-waiting l K js h f =
      ne_eqb _ l (λ e. elim (head_or_in (waiting ss x K js)) [ inl z ↦ omega arith | inr m ↦ omega (arith, f _ (in_those _ K m).0) ])

  free_intro : (l : ℕ) (js : List Join) → eqb (right_of l js) 0 ≡ true → left_of r js ≡ 0 → eqb l (last_of r js) ≡ false → free l r js ≡ true
  free_intro l js e z n = rw (e, z, ne_eqb (last_of r js) l (λ q. eqb-false l (last_of r js) n (sym q)))

  tie_takes :
      (K : List ℕ) (js : List Join)
      → Asc ◌<◌ K → ((k : ℕ) → In k K → 1 ≤ k) → Sound js → begins x (slip ss r) ≡ true → left_of r js ≡ 0
      → take_arcs (ties_to ss K x r) js ≡ joined (behind r (waiting ss x K js) js) js
  tie_takes [] js a p s b z = elim (tell (eqb 0 (last_of r js))) [ inl e ↦ rw e | inr e ↦ rw e ]
  tie_takes (l ∷ K) js a p s b z =
      let t : ℕ → Bool = λ i. ends_properly x (slip ss i) && eqb (right_of i js) 0 in
      let ih = tie_takes K js a.1 (λ k m. p k (there m)) s b z in
      elim (tell (t l)) [
        | inr n ↦
            rw (those_no t l K n)
            (tie_idle l _ js (λ q. by_zero (right_of l js) (λ e. absurd (not_both (t l) (rw (q, e)) n)) (refused_right l r js)) ∙ ih)
        | inl y ↦
            elim (tell (eqb l (last_of r js))) [
              | inl e ↦
                  let q = eqb-true l (last_of r js) e in
                  rw (those-yes t l K y, e)
                  (tie_idle l _ js (λ h. refused_last l r js (sym q)) ∙ (ih ∙ rw (← q, head_or-waiting l K js (p l (here refl)) a.0)))
              | inr n ↦
                  let (q, e) = both (ends_properly x (slip ss l)) (eqb (right_of l js) 0) y in
                  let h = p l (here refl) in
                  rw (those-yes t l K y, n, b, q, free_intro l js e z n, le-leb 1 l h)
                  (tie_spent K (js ++ (join l r (length x) ∷ [])) (left_of_joined (join l r (length x)) js h s))
            ]
      ]

pub in_ties : (ss : List (List ℕ)) (K rs x : List ℕ) (c : Join) → In c (ties ss K rs x) → In c.left K × In c.right rs × Tied ss x c
in_ties ss K rs x c m =
    let (r, i, n) = in_each (ties_to ss K x) rs m in
    let (l, e, t) = in_ties_to ss x r K c n in
    (l, rw e i, t)

pub ties_in : (ss : List (List ℕ)) (K rs x : List ℕ) (c : Join) → In c.left K → In c.right rs → Tied ss x c → In c (ties ss K rs x)
ties_in ss K rs x c l r t =
    each_in (ties_to ss K x) r
    (each_in (tie ss x c.right) l (rw (t.starts, t.ends) (here (ap (join c.left c.right) t.size))))

module _ (ss : List (List ℕ)) (K : List ℕ) (asc : Asc ◌<◌ K) (pos : (k : ℕ) → In k K → 1 ≤ k) where
  pub visit_slip_takes : (x : List ℕ) (r : ℕ) (js : List Join) → Sound js → visit_slip ss K x r js ≡ take_arcs (ties_to ss K x r) js
  visit_slip_takes x r js s =
      elim (tell (begins x (slip ss r))) [
        | inr n ↦
            rw n
            (sym (take_none (ties_to ss K x r) js (λ c m. let (l, e, t) = in_ties_to ss x r K c m in absurd (not_both _ t.starts (rw e n)))))
        | inl b ↦
            by_zero (left_of r js)
            (λ z. rw (b, z) (sym (tie_takes ss x r K js asc pos s b z)))
            (λ h. rw (b, some-eqb (left_of r js) h) (sym (tie_spent ss x r K js h)))
      ]

  pub visit_takes : (x : List ℕ) (rs : List ℕ) (js : List Join) → Sound js → visit ss K x rs js ≡ take_arcs (ties ss K rs x) js
  visit_takes x [] js s = refl
  visit_takes x (r ∷ rs) js s =
      rw (visit_slip_takes x r js s, take_append (ties_to ss K x r))
      (visit_takes x rs (take_arcs (ties_to ss K x r) js) (sound_take _ js (λ c m. pos c.left (in_ties_to ss x r K c m).0) s))

  pub walk_takes : (xs : List (List ℕ)) (js : List Join) → Sound js → walk_from ss K xs js ≡ take_arcs (each (ties ss K K) xs) js
  walk_takes [] js s = refl
  walk_takes (x ∷ xs) js s =
      rw (visit_takes x K js s, take_append (ties ss K K x))
      (walk_takes xs (take_arcs (ties ss K K x) js) (sound_take _ js (λ c m. pos c.left (in_ties ss K K x c m).0) s))
