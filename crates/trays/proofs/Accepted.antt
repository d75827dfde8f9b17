-- What is known of an accepted tray, and where its slips stand.
--   Accepted m s es  == no row of 1 to 6 turns the tray back, where a slip may have m letters
--   rows_tell        == so where the rows for m are silent; accepted_tells, for the limit that holds
--   Signs x          == x is made of the 27 signs
use mathlib.Core.Path.{◌≡◌, refl, ◌∙◌, ap}
use mathlib.Core.Bool.{Bool, true, false, not, ◌||◌}
use mathlib.Core.List.{List, [], ◌∷◌}
use Prim.Native.Nat.{ℕ, zero, suc, ◌+◌, ◌-◌, ◌≤◌, ◌<◌}
use borrow.Author.Tests.{ltb-false, eqb-true, eqb-false, not-false}
use native.Mathlib.Omega.{arith}
use lib.Dec.{ltb, eqb}
use lib.ListN.{length, get_or, take, drop}
use lib.Seq.{drop-drop}
use Rattle.words.specs.Lists.{any, last_or}
use Rattle.words.proofs.Tests.{by_test, neither}
use Rattle.words.proofs.Runs.{length-up_from}
use Rattle.words.proofs.Sums.{All}
use Rattle.trays.specs.declared.Refusal.{Refusal}
use Rattle.trays.specs.Limits.{max_slips, max_slip, max_letters}
use Rattle.trays.specs.Slips.{slips_from, slips_of, slip, numbers, is_letter, start_of, end_of}
use Rattle.trays.specs.Faults.{row, first_row, tray_rows_for, tray_fault, not_above, too_long, bad_slip}
use Rattle.trays.proofs.Rising.{above_rest}
use Rattle.trays.proofs.Rows.{both_silent, slip-zero}

-- where no row speaks, each is silent
pub rows_silent : (rs : List Refusal) → (first_row rs).number ≡ 0 → All (λ r. r.number ≡ 0) rs
rows_silent [] h = tt
rows_silent (r ∷ rs) h = let b = both_silent r (first_row rs) h in (b.0, rows_silent rs b.1)

pub row_silent : (n : ℕ) (b : Bool) (d : ℕ) → (row (suc n) b d).number ≡ 0 → b ≡ false
row_silent n true d h = absurd (no h)
  where
    no : suc n ≡ 0 → ⊥
    no q = omega arith
row_silent n false d h = refl

-- a row that asks for a number from 1 to a limit
pub range_silent : (n top i d : ℕ) → (row (suc n) (eqb i 0 || ltb top i) d).number ≡ 0 → (1 ≤ i) × (i ≤ top)
range_silent n top i d h =
    let (none, over) = neither (eqb i 0) (ltb top i) (row_silent n (eqb i 0 || ltb top i) d h) in
    let z : i ≡ 0 → ⊥ = eqb-false i 0 none in
    (omega arith, ltb-false top i over)

pub record Accepted (m : ℕ) (s es : List ℕ) : Type 0 where
  pub few : length es ≤ max_slips
  pub rise : not_above 1 0 es ≡ 0
  pub short : too_long m 1 0 es ≡ 0
  pub small : length s ≤ max_letters
  pub reach : last_or 0 es ≡ length s
  pub signs : bad_slip 1 (slips_of s es) ≡ 0

pub rows_tell : (m : ℕ) (s es : List ℕ) → (first_row (tray_rows_for m s es)).number ≡ 0 → Accepted m s es
rows_tell m s es h =
    let r = rows_silent (tray_rows_for m s es) h in
    record {
      few = ltb-false max_slips (length es) (row_silent 0 (ltb max_slips (length es)) 0 r.0);
      rise = slip-zero 1 (not_above 1 0 es) r.1.0;
      short = slip-zero 2 (too_long m 1 0 es) r.1.1.0;
      small = ltb-false max_letters (length s) (row_silent 3 (ltb max_letters (length s)) 0 r.1.1.1.0);
      reach =
          eqb-true (last_or 0 es) (length s)
          (not-false (eqb (last_or 0 es) (length s)) (row_silent 4 (not (eqb (last_or 0 es) (length s))) 0 r.1.1.1.1.0));
      signs = slip-zero 5 (bad_slip 1 (slips_of s es)) r.1.1.1.1.1.0;
    }

pub accepted_tells : (s es : List ℕ) → (tray_fault s es).number ≡ 0 → Accepted max_slip s es
unfolding tray_fault
accepted_tells s es h = rows_tell max_slip s es h

-- ends rise: each is above those before it
rise_at : (i here : ℕ) (es : List ℕ) → 1 ≤ i → not_above i here es ≡ 0 → (k : ℕ) → k ≤ length es → here ≤ get_or (here ∷ es) k 0
rise_at i here es p h zero l = omega arith
rise_at i here [] p h (suc k) l = absurd (omega arith)
rise_at i here (e ∷ es) p h (suc k) l =
    let r = above_rest i here e es h p in
    omega (arith, r.0, rise_at (suc i) e es (omega arith) r.1 k (omega arith))

rise_next : (i here : ℕ) (es : List ℕ) → 1 ≤ i → not_above i here es ≡ 0 → (k : ℕ) → k < length es → get_or (here ∷ es) k 0 < get_or es k 0
rise_next i here [] p h k l = absurd (omega arith)
rise_next i here (e ∷ es) p h zero l = (above_rest i here e es h p).0
rise_next i here (e ∷ es) p h (suc k) l = rise_next (suc i) e es (omega arith) (above_rest i here e es h p).1 k (omega arith)

rise_last : (i here : ℕ) (es : List ℕ) → 1 ≤ i → not_above i here es ≡ 0 → (k : ℕ) → k ≤ length es → get_or (here ∷ es) k 0 ≤ last_or here es
rise_last i here [] p h zero l = omega arith
rise_last i here [] p h (suc k) l = absurd (omega arith)
rise_last i here (e ∷ es) p h zero l =
    let r = above_rest i here e es h p in
    omega (arith, r.0, rise_last (suc i) e es (omega arith) r.1 zero (omega arith))
rise_last i here (e ∷ es) p h (suc k) l = rise_last (suc i) e es (omega arith) (above_rest i here e es h p).1 k (omega arith)

slips_at : (i here : ℕ) (s es : List ℕ) → 1 ≤ i → not_above i here es ≡ 0 → (k : ℕ) → k < length es →
    get_or (slips_from here s es) k [] ≡ take (get_or es k 0 - get_or (here ∷ es) k 0) (drop (get_or (here ∷ es) k 0 - here) s)
slips_at i here s [] p h k l = absurd (omega arith)
slips_at i here s (e ∷ es) p h zero l =
    let z : here - here ≡ 0 = omega arith in
    rw z
slips_at i here s (e ∷ es) p h (suc k) l =
    let r = above_rest i here e es h p in
    let u : here < e = r.0 in
    let a : e ≤ get_or (e ∷ es) k 0 = rise_at (suc i) e es (omega arith) r.1 k (omega arith) in
    let d : (e - here) + (get_or (e ∷ es) k 0 - e) ≡ get_or (e ∷ es) k 0 - here = omega arith in
    slips_at (suc i) e (drop (e - here) s) es (omega arith) r.1 k (omega arith) ∙ rw (drop-drop, d)

pub end_at : (es : List ℕ) (k : ℕ) → end_of es k ≡ get_or (0 ∷ es) k 0
end_at es zero = refl
end_at es (suc k) = refl

-- a slip's stretch lies within the letters, and holds the slip's letters
module _ (s es : List ℕ) (acc : (tray_fault s es).number ≡ 0) where
  pub span_rises : (i : ℕ) → 1 ≤ i → i ≤ length es → start_of es i < end_of es i
  span_rises zero p l = absurd (omega arith)
  span_rises (suc k) p l = rw (end_at es k) (rise_next 1 0 es (omega arith) (accepted_tells s es acc).rise k l)

  pub span_fits : (i : ℕ) → 1 ≤ i → i ≤ length es → end_of es i ≤ length s
  span_fits zero p l = absurd (omega arith)
  span_fits (suc k) p l =
      let a = accepted_tells s es acc in
      omega (arith, rise_last 1 0 es (omega arith) a.rise (suc k) l, a.reach)

  pub span_slip : (i : ℕ) → 1 ≤ i → i ≤ length es → slip (slips_of s es) i ≡ take (end_of es i - start_of es i) (drop (start_of es i) s)
  span_slip zero p l = absurd (omega arith)
  span_slip (suc k) p l =
      let z : get_or (0 ∷ es) k 0 - 0 ≡ get_or (0 ∷ es) k 0 = omega arith in
      rw (end_at es k) (slips_at 1 0 s es (omega arith) (accepted_tells s es acc).rise k l ∙ rw z)

-- x is made of the 27 signs
abbrev pub Signs : List ℕ → Type 0
Signs x = any (λ b. not (is_letter b)) x ≡ false

pub signs_rest : (i : ℕ) (x : List ℕ) (xs : List (List ℕ)) → 1 ≤ i → bad_slip i (x ∷ xs) ≡ 0 → Signs x × (bad_slip (suc i) xs ≡ 0)
signs_rest i x xs p h =
    by_test (any (λ b. not (is_letter b)) x)
    (λ t. absurd (omega (arith, rw (t, bad_slip) at h)))
    (λ t. (t, rw (t, bad_slip) at h))

slips_signs : (i : ℕ) (xs : List (List ℕ)) → 1 ≤ i → bad_slip i xs ≡ 0 → (k : ℕ) → Signs (get_or xs k [])
slips_signs i [] p h k = refl
slips_signs i (x ∷ xs) p h zero = (signs_rest i x xs p h).0
slips_signs i (x ∷ xs) p h (suc k) = slips_signs (suc i) xs (omega arith) (signs_rest i x xs p h).1 k

pub accepted_signs : (s es : List ℕ) → (tray_fault s es).number ≡ 0 → (i : ℕ) → Signs (slip (slips_of s es) i)
accepted_signs s es acc zero = refl
accepted_signs s es acc (suc i) = slips_signs 1 (slips_of s es) (omega arith) (accepted_tells s es acc).signs i

count_slips : (here : ℕ) (s es : List ℕ) → length (slips_from here s es) ≡ length es
count_slips here s [] = refl
count_slips here s (e ∷ es) = ap suc (count_slips e (drop (e - here) s) es)

pub slips_count : (s es : List ℕ) → length (slips_of s es) ≡ length es
slips_count s es = count_slips 0 s es

pub numbers_count : (s es : List ℕ) → length (numbers (slips_of s es)) ≡ length es
numbers_count s es = length-up_from 1 (length (slips_of s es)) ∙ slips_count s es
