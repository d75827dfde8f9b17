-- The ways through the functions on one slip and on a pair.
--   request-..  == row 10
--   slip-..     == rows 1 to 6, then 10
--   pair-..     == rows 21, 1 to 6, 22, 10, 10, 11; then pairs of one side, and of two
use mathlib.Core.Path.{◌≡◌, refl, sym, ◌∙◌, ap, ap₂}
use mathlib.Core.Bool.{Bool, true, false, ◌||◌}
use mathlib.Core.Logic.{◌⊎◌, inl, inr}
use mathlib.Core.List.{List, [], ◌∷◌, ◌++◌, append_assoc}
use Prim.Native.Nat.{ℕ, zero, suc, ◌-◌, ◌^◌, ◌≤◌, ◌<◌, ◌+◌}
use borrow.Author.Tests.{lt-ltb, le-ltb, eq-eqb, ne_eqb}
use native.Mathlib.Omega.{arith}
use lib.Dec.{ltb, eqb}
use lib.ListN.{length, get_or, take, drop}
use Rattle.words.proofs.Picks.{entry_at}
use Rattle.trays.specs.declared.Refusal.{Refusal}
use Rattle.trays.specs.declared.fault.Fault.{Fault}
use Rattle.trays.specs.Told.{told}
use Rattle.trays.proofs.Told.{told_speaks, told-first, told_next}
use Rattle.trays.specs.declared.Pair.{Pair}
use Rattle.trays.specs.declared.Span.{Span}
use Rattle.trays.specs.declared.Located.{Located}
use Rattle.trays.specs.Slips.{span_of}
use Rattle.trays.specs.Faults.{refusal, accepted, or_else, first_row, tray_rows, tray_fault, set_rows, slip_row, slip_fault, pair_row}
use Rattle.trays.specs.Sides.{blank_side, side_of, sides_row, side_row, sided_fault, AcceptedSides, pair_fault}
use Rattle.trays.specs.Answers.{stretch_of, stretch_start, stretch_end, Stretch, located_of, pair_of}
use Rattle.trays.proofs.Rows.{or_zero, or_some, both_silent, by_number, rows_append}
use Rattle.trays.proofs.Accepted.{row_silent, range_silent, accepted_tells}
use Rattle.trays.proofs.SidedTrays.{sides_tell, sided_tells}
use Rattle.slips.proofs.Stretches.{part_rises, part_fits, part_is}
use Rattle.slips.specs.Pairs.{TwoSlips, Overlap}
use Rattle.tray_ask.specs.Steps.Sides.{TwoSides}

pub request_bad : (es : List ℕ) (i : ℕ) → (i ≡ 0) ⊎ ((i ≡ 0 → ⊥) × (length es < i)) → refusal 10 i ≡ slip_row es i
request_bad es i (inl e) = rw (eq-eqb i 0 e)
request_bad es i (inr (z, h)) = rw (ne_eqb i 0 z, lt-ltb (length es) i h)

pub request_good : (es : List ℕ) (i : ℕ) → (i ≡ 0 → ⊥) → i ≤ length es → accepted ≡ slip_row es i
request_good es i z h = rw (ne_eqb i 0 z, le-ltb (length es) i h)

-- a row that is silent is the accepting one
row_accepts : (es : List ℕ) (i : ℕ) → (slip_row es i).number ≡ 0 → (1 ≤ i) × (i ≤ length es) × (slip_row es i ≡ accepted)
row_accepts es i h =
    let (some, most) = range_silent 9 (length es) i i h in
    (some, most, rw (row_silent 9 (eqb i 0 || ltb (length es) i) i h))

row_then : (es : List ℕ) (i : ℕ) → or_else (slip_row es i) accepted ≡ slip_row es i
row_then es i =
    by_number (slip_row es i)
    (λ z. or_zero (slip_row es i) accepted z ∙ sym (row_accepts es i z).2)
    (λ p. or_some (slip_row es i) accepted p)

module _ (s es : List ℕ) (i : ℕ) where
  slip_is : slip_fault s es i ≡ or_else (tray_fault s es) (slip_row es i)
  unfolding tray_fault slip_fault
  slip_is = rows_append (tray_rows s es) (slip_row es i ∷ []) ∙ rw (row_then es i)

  pub slip_refused : (x : Fault) → told x ≡ tray_fault s es → told x ≡ slip_fault s es i
  slip_refused x e = told-first x (tray_fault s es) (slip_row es i) e ∙ sym slip_is

  pub slip_asked : accepted ≡ tray_fault s es → (g : Refusal) → g ≡ slip_row es i → g ≡ slip_fault s es i
  slip_asked e g h = h ∙ told_next (tray_fault s es) (slip_row es i) e ∙ sym slip_is

-- what an accepted request tells
pub slip_good : (s es : List ℕ) (i : ℕ) → (slip_fault s es i).number ≡ 0 → ((tray_fault s es).number ≡ 0) × (1 ≤ i) × (i ≤ length es)
unfolding tray_fault slip_fault
slip_good s es i h =
    let g = both_silent (tray_fault s es) (first_row (slip_row es i ∷ [])) (rw (rows_append (tray_rows s es) (slip_row es i ∷ [])) at h) in
    let k = row_accepts es i (both_silent (slip_row es i) accepted g.1).0 in
    (g.0, k.0, k.1)

module _ (m : ℕ) (s es cs : List ℕ) (i j : ℕ) where
  -- the rows of a pair: settings, tray and sides, each slip's, then 11; a blank is a side, so that of the side named nothing is refused
  pair_rows : pair_fault m s es cs i j ≡ or_else (sided_fault m blank_side s es cs) (or_else (slip_row es i) (or_else (slip_row es j) (or_else (pair_row i j) accepted)))
  unfolding sided_fault pair_fault
  pair_rows =
      let set = set_rows m s es in
      let rest = slip_row es i ∷ (slip_row es j ∷ (pair_row i j ∷ [])) in
      let sides = sides_row es cs ∷ [] in
      ap first_row (sym (append_assoc set sides rest))
      ∙ rows_append (set ++ sides) rest
      ∙ ap (λ f. or_else f (first_row rest)) (rows_append set sides ∙ sym (rows_append set (sides_row es cs ∷ (side_row blank_side ∷ []))))

  abbrev last : Refusal
  last = or_else (pair_row i j) accepted

  pub pair_set : (x : Fault) → told x ≡ sided_fault m blank_side s es cs → told x ≡ pair_fault m s es cs i j
  pair_set x d = told-first x (sided_fault m blank_side s es cs) _ d ∙ sym pair_rows

  module _ (d : accepted ≡ sided_fault m blank_side s es cs) where
    after_set : or_else (slip_row es i) (or_else (slip_row es j) last) ≡ pair_fault m s es cs i j
    after_set = told_next (sided_fault m blank_side s es cs) _ d ∙ sym pair_rows

    pub pair_left : (x : Fault) → told x ≡ slip_row es i → told x ≡ pair_fault m s es cs i j
    pair_left x e = told-first x (slip_row es i) _ e ∙ after_set

    module _ (e : accepted ≡ slip_row es i) where
      after_left : or_else (slip_row es j) last ≡ pair_fault m s es cs i j
      after_left = told_next (slip_row es i) _ e ∙ after_set

      pub pair_right : (x : Fault) → told x ≡ slip_row es j → told x ≡ pair_fault m s es cs i j
      pair_right x h = told-first x (slip_row es j) last h ∙ after_left

      module _ (h : accepted ≡ slip_row es j) where
        after_right : last ≡ pair_fault m s es cs i j
        after_right = told_next (slip_row es j) last h ∙ after_left

        pub pair_twice : i ≡ j → refusal 11 i ≡ pair_fault m s es cs i j
        pair_twice q = rw (← after_right, eq-eqb i j q)

        pub pair_different : (i ≡ j → ⊥) → accepted ≡ pair_fault m s es cs i j
        pair_different q = rw (← after_right, ne_eqb i j q)

  pub pair_good : (pair_fault m s es cs i j).number ≡ 0 → AcceptedSides s es cs × (1 ≤ i) × (i ≤ length es) × (1 ≤ j) × (j ≤ length es)
  pair_good h =
      let last = or_else (slip_row es j) (or_else (pair_row i j) accepted) in
      let a = both_silent (sided_fault m blank_side s es cs) (or_else (slip_row es i) last) (rw pair_rows at h) in
      let b = both_silent (slip_row es i) last a.1 in
      let l = row_accepts es i b.0 in
      let r = row_accepts es j (both_silent (slip_row es j) (or_else (pair_row i j) accepted) b.1).0 in
      ((sided_tells m blank_side s es cs a.0).accepted, l.0, l.1, r.0, r.1)

-- the refusal of a slip, and two places
abbrev located : List ℕ → List ℕ → ℕ → ℕ → ℕ → Located
located s es i m n = record { number = (slip_fault s es i).number; detail = (slip_fault s es i).detail; start = m; end = n }

module _ (s es : List ℕ) (i : ℕ) where
  pub stretch_refused : (x : Fault) → told x ≡ slip_fault s es i → (p : ℕ × ℕ) → Stretch s es i p [] (p.0, 0 + p.1) (told x).number (told x).detail
  stretch_refused x e p =
      let (none, first) = nothing (told x).number (told_speaks x) (ap (λ (r : Refusal). r.number) e) in
      record { letters_are = none; place_is = ap (λ (n : ℕ). (p.0, n + p.1)) first; number_is = rw e; detail_is = rw e }
    where
      nothing : (n : ℕ) → 1 ≤ n → n ≡ (slip_fault s es i).number → ([] ≡ stretch_of s es i) × (0 ≡ stretch_start s es i)
      nothing zero w h = absurd (omega arith)
      nothing (suc n) w h = (rw (sym h, stretch_of), rw (sym h, stretch_start))

  pub place_refused : (x : Fault) → told x ≡ slip_fault s es i
      → ◌≡◌ {A = Located} (record { number = (told x).number; detail = (told x).detail; start = 0; end = 0 }) (located_of s es i)
  place_refused x e =
      let (a, b) = nothing (told x).number (told_speaks x) (ap (λ (r : Refusal). r.number) e) in
      rw e (ap₂ (located s es i) a b)
    where
      nothing : (n : ℕ) → 1 ≤ n → n ≡ (slip_fault s es i).number → (0 ≡ stretch_start s es i) × (0 ≡ stretch_end s es i)
      nothing zero w h = absurd (omega arith)
      nothing (suc n) w h = (rw (sym h, stretch_start), rw (sym h, stretch_end))

  module _ (e : accepted ≡ slip_fault s es i) where
    quiet : (slip_fault s es i).number ≡ 0
    quiet = ap (λ (r : Refusal). r.number) (sym e)

    pub request_tells : ((tray_fault s es).number ≡ 0) × (1 ≤ i) × (i ≤ length es)
    request_tells = slip_good s es i quiet

    pub request_real : (1 ≤ i) × (i ≤ length es)
    request_real = let t = request_tells in (t.1, t.2)

    -- where the slip stands
    module _ (span : Span) (h : span ≡ span_of es i) where
      pub stretch_rises : span.start ≤ span.end
      stretch_rises = let t = request_tells in part_rises s es i span h t.0 t.1 t.2

      pub stretch_fits : span.end ≤ length s
      stretch_fits = let t = request_tells in part_fits s es i span h t.0 t.1 t.2

      pub start_small : span.start < 2 ^ 32
      start_small = let t = request_tells in omega (arith, stretch_rises, stretch_fits, (accepted_tells s es t.0).small)

      pub end_small : span.end < 2 ^ 32
      end_small = let t = request_tells in omega (arith, stretch_fits, (accepted_tells s es t.0).small)

      start_is : span.start ≡ stretch_start s es i
      start_is = ap (λ (x : Span). x.start) h ∙ rw (quiet, stretch_start)

      end_is : span.end ≡ stretch_end s es i
      end_is = ap (λ (x : Span). x.end) h ∙ rw (quiet, stretch_end)

      pub place_found : ◌≡◌ {A = Located} (record { number = 0; detail = 0; start = span.start; end = span.end }) (located_of s es i)
      place_found = rw (← e) (ap₂ told_at start_is end_is)
        where
          told_at : ℕ → ℕ → Located
          told_at m n = record { number = 0; detail = 0; start = m; end = n }

      pub stretch_good : (p : ℕ × ℕ) → Stretch s es i p (take (span.end - span.start) (drop span.start s)) (p.0, span.start + p.1) 0 0
      stretch_good p =
          let t = request_tells in
          record {
            letters_are = part_is s es i span h t.0 t.1 t.2 ∙ rw (quiet, stretch_of);
            place_is = ap (λ (m : ℕ). (p.0, m + p.1)) start_is;
            number_is = sym quiet;
            detail_is = ap (λ (r : Refusal). r.detail) e;
          }

module _ (m : ℕ) (s es cs : List ℕ) (i j : ℕ) where
  pub pair_refused : (x : Fault) → told x ≡ pair_fault m s es cs i j
      → ◌≡◌ {A = Pair} (record { number = (told x).number; detail = (told x).detail; letters = 0 }) (pair_of m s es cs i j)
  pair_refused x e = rw e (ap (λ (n : ℕ). paired n) (nothing (told x).number (told_speaks x) (ap (λ (r : Refusal). r.number) e)))
    where
      paired : ℕ → Pair
      paired n = record { number = (pair_fault m s es cs i j).number; detail = (pair_fault m s es cs i j).detail; letters = n }

      nothing : (n : ℕ) → 1 ≤ n → n ≡ (pair_fault m s es cs i j).number → 0 ≡ (pair_of m s es cs i j).letters
      nothing zero w h = absurd (omega arith)
      nothing (suc n) w h = rw (sym h, pair_of)

  module _ (e : accepted ≡ pair_fault m s es cs i j) where
    silent : (pair_fault m s es cs i j).number ≡ 0
    silent = ap (λ (r : Refusal). r.number) (sym e)

    pair_tells : AcceptedSides s es cs × (1 ≤ i) × (i ≤ length es) × (1 ≤ j) × (j ≤ length es)
    pair_tells = pair_good m s es cs i j silent

    pub pair_slips : TwoSlips s es i j
    pair_slips =
        let t = pair_tells in
        record { tray = t.0.tray; left-some = t.1; left-most = t.2; right_some = t.3; right_most = t.4 }

    pub pair_sides : TwoSides cs i j
    pair_sides =
        let t = pair_tells in
        let n = (sides_tell es cs t.0.sides).0 in
        record {
          left-some = omega (arith, t.1);
          left-most = omega (arith, t.2);
          right_some = omega (arith, t.3);
          right_most = omega (arith, t.4);
        }

    pub pair_apart : (b : Bool) → b ≡ eqb (side_of cs i) (side_of cs j) → b ≡ false
        → ◌≡◌ {A = Pair} (record { number = 0; detail = 0; letters = 0 }) (pair_of m s es cs i j)
    pair_apart b q n = let u : eqb (side_of cs i) (side_of cs j) ≡ false = sym q ∙ n in rw (← e, u)

    pub pair_found : (n : ℕ) → Overlap m s es i j n → (b : Bool) → b ≡ eqb (side_of cs i) (side_of cs j) → b ≡ true
        → ◌≡◌ {A = Pair} (record { number = 0; detail = 0; letters = n }) (pair_of m s es cs i j)
    pair_found n O b q y = let u : eqb (side_of cs i) (side_of cs j) ≡ true = sym q ∙ y in rw (← e, O.is, u)

pub sides_same : (cs : List ℕ) (l r : ℕ) (b : Bool) → TwoSides cs l r → b ≡ eqb (get_or cs (l - 1) 0) (get_or cs (r - 1) 0)
    → b ≡ eqb (side_of cs l) (side_of cs r)
sides_same cs l r b t e = e ∙ ap₂ eqb (entry_at cs l t.left-some) (entry_at cs r t.right_some)
