-- The lowest slip with a bad byte is the slip that holds the first bad place.
--   bad b     == b is outside the signs
--   good_to s  == how many letters stand before the first bad byte
-- Slip after slip: either the bad byte is among the first slip's letters, or all of those are good and the rest decides.
use mathlib.Core.Path.{◌≡◌, refl, sym, ◌∙◌, ap}
use mathlib.Core.Bool.{Bool, true, false, true≢false, not, cond}
use mathlib.Core.List.{List, [], ◌∷◌}
use Prim.Native.Nat.{ℕ, zero, suc, ◌+◌, ◌-◌, ◌≤◌, ◌<◌}
use borrow.Author.Tests.{leb-false, lt-leb, le-leb}
use native.Mathlib.Omega.{arith}
use lib.Dec.{leb}
use lib.ListN.{length, take, drop, length-drop}
use lib.Seq.{take-length}
use Rattle.words.specs.Lists.{any, last_or}
use Rattle.words.proofs.Tests.{by_test}
use Rattle.trays.specs.Slips.{slips_from, is_letter}
use Rattle.trays.specs.Faults.{not_above, bad_slip, bad_place}
use Rattle.tray_check.specs.Steps.Checks.{slip_holding}
use Rattle.trays.proofs.Rising.{above_rest, last_above}

abbrev bad : ℕ → Bool
bad b = not (is_letter b)

abbrev good_to : List ℕ → ℕ
good_to [] = 0
good_to (b ∷ bs) = elim (is_letter b) [ true ↦ suc (good_to bs) | false ↦ 0 ]

good_yes : (b : ℕ) (bs : List ℕ) → is_letter b ≡ true → good_to (b ∷ bs) ≡ suc (good_to bs)
good_yes b bs e = rw (e, good_to)

good_no : (b : ℕ) (bs : List ℕ) → is_letter b ≡ false → good_to (b ∷ bs) ≡ 0
good_no b bs e = rw (e, good_to)

place_good : (i : ℕ) (s : List ℕ) → bad_place i s ≡ cond (any bad s) (i + good_to s) 0
place_good i [] = refl
place_good i (b ∷ bs) =
    by_test (is_letter b)
    (λ e. rw (e, good_yes b bs e, bad_place, place_good (suc i) bs) (ap (λ (n : ℕ). cond (any bad bs) n 0) (omega arith)))
    (λ e. rw (e, good_no b bs e, bad_place) (omega arith))

-- a bad byte among the first k
bad_in : (k : ℕ) (s : List ℕ) → any bad (take k s) ≡ true → (any bad s ≡ true) × (good_to s < k)
bad_in zero s h = absurd (true≢false (sym h))
bad_in (suc k) [] h = absurd (true≢false (sym h))
bad_in (suc k) (b ∷ bs) h =
    by_test (is_letter b)
    (λ e. let r = bad_in k bs (rw e at h) in (rw e r.0, rw (good_yes b bs e) (omega (arith, r.1))))
    (λ e. (rw e, rw (good_no b bs e) (omega arith)))

-- none among the first k
good_in : (k : ℕ) (s : List ℕ) → k ≤ length s → any bad (take k s) ≡ false → (any bad s ≡ any bad (drop k s)) × (good_to s ≡ k + good_to (drop k s))
good_in zero s l h = (refl, omega arith)
good_in (suc k) [] l h = absurd (omega arith)
good_in (suc k) (b ∷ bs) l h =
    by_test (is_letter b)
    (λ e. let r = good_in k bs (omega arith) (rw e at h) in (rw e r.0, rw (good_yes b bs e) (omega (arith, r.1))))
    (λ e. absurd (true≢false (rw e at h)))

bad_from : (i here : ℕ) (s es : List ℕ) → 1 ≤ i → not_above i here es ≡ 0 → last_or here es ≡ here + length s →
    bad_slip i (slips_from here s es) ≡ cond (any bad s) (slip_holding i (here + suc (good_to s)) es) 0
bad_from i here [] [] p h l = refl
bad_from i here (b ∷ bs) [] p h l = absurd (omega arith)
bad_from i here s (e ∷ es) p h l =
    let r = above_rest i here e es h p in
    let a : e ≤ last_or e es = last_above (suc i) e es (omega arith) r.1 in
    let u : here < e = r.0 in
    let k : ℕ = e - here in
    by_test (any bad (take (e - here) s))
    (λ t.
    let g = bad_in (e - here) s t in
    let w : here + suc (good_to s) ≤ e = omega (arith, g.1) in
    rw (t, bad_slip, g.0, le-leb (here + suc (good_to s)) e w, slip_holding))
    (λ t.
    let g = good_in (e - here) s (omega arith) t in
    let w : e < here + suc (good_to s) = omega (arith, g.1) in
    let d : here + suc (good_to s) ≡ e + suc (good_to (drop (e - here) s)) = omega (arith, g.1) in
    let f : last_or e es ≡ e + length (drop (e - here) s) = rw length-drop (omega arith) in
    rw (t, bad_slip, g.0, lt-leb (here + suc (good_to s)) e w, slip_holding, d) (bad_from (suc i) e (drop (e - here) s) es (omega arith) r.1 f))

holding_positive : (i p here : ℕ) (es : List ℕ) → 1 ≤ i → here < p → p ≤ last_or here es → 1 ≤ slip_holding i p es
holding_positive i p here [] h u l = absurd (omega arith)
holding_positive i p here (e ∷ es) h u l =
    by_test (leb p e)
    (λ t. rw (t, slip_holding) h)
    (λ t. rw (t, slip_holding) (holding_positive (suc i) p e es (omega arith) (leb-false p e t) l))

-- row 6: the slip at fault, read off the first bad place
module _ (s es : List ℕ) (h : not_above 1 0 es ≡ 0) (l : last_or 0 es ≡ length s) where
  from_start : bad_slip 1 (slips_from 0 s es) ≡ cond (any bad s) (slip_holding 1 (0 + suc (good_to s)) es) 0
  from_start = bad_from 1 0 s es (omega arith) h (omega arith)

  pub bad_none : bad_place 1 s ≡ 0 → bad_slip 1 (slips_from 0 s es) ≡ 0
  bad_none z =
      by_test (any bad s)
      (λ t. absurd (no (good_to s) (rw t at (sym (place_good 1 s) ∙ z))))
      (λ t. from_start ∙ rw t)
    where
      no : (n : ℕ) → 1 + n ≡ 0 → ⊥
      no n e = omega arith

  pub bad_some : (bad_place 1 s ≡ 0 → ⊥) → bad_slip 1 (slips_from 0 s es) ≡ slip_holding 1 (bad_place 1 s) es
  bad_some z =
      by_test (any bad s)
      (λ t. from_start ∙ rw (place_good 1 s, t) (ap (λ (n : ℕ). slip_holding 1 n es) (omega arith)))
      (λ t. absurd (z (place_good 1 s ∙ rw t)))

  pub bad_positive : (bad_place 1 s ≡ 0 → ⊥) → 1 ≤ slip_holding 1 (bad_place 1 s) es
  bad_positive z =
      by_test (any bad s)
      (λ t.
      let g : good_to s < length s = (bad_in (length s) s (rw take-length t)).1 in
      let e : bad_place 1 s ≡ 1 + good_to s = place_good 1 s ∙ rw t in
      holding_positive 1 (bad_place 1 s) 0 es (omega arith) (omega arith) (omega arith))
      (λ t. absurd (z (place_good 1 s ∙ rw t)))
