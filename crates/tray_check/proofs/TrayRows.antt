-- What the tray check finds row by row: the ways through check_rows.
use mathlib.Core.Path.{◌≡◌, sym, ◌∙◌, ap}
use mathlib.Core.Bool.{not}
use mathlib.Core.List.{List, [], ◌∷◌}
use Prim.Native.Nat.{ℕ, ◌+◌, ◌≤◌, ◌<◌}
use borrow.Author.Tests.{lt-ltb, le-ltb, le-leb, eq-eqb, ne_eqb}
use native.Mathlib.Omega.{arith}
use lib.Dec.{ltb, eqb}
use lib.ListN.{length}
use Rattle.words.specs.Lists.{last_or}
use Rattle.trays.specs.declared.Refusal.{Refusal}
use Rattle.trays.specs.declared.fault.Fault.{Fault}
use Rattle.trays.specs.Told.{told}
use Rattle.trays.proofs.Told.{told-first, told_next}
use Rattle.trays.specs.Limits.{max_slips, max_slip, max_letters}
use Rattle.trays.specs.Slips.{slips_of}
use Rattle.trays.specs.Faults.{refusal, accepted, or_else, first_row, tray_fault, not_above, too_long, bad_slip, bad_place, slip_at, row}
use Rattle.tray_check.specs.Steps.Checks.{ends_fault, slip_holding}
use Rattle.tray_check.proofs.BadSlip.{bad_none, bad_some, bad_positive}
use Rattle.trays.proofs.Rows.{or_some, by_number, rows_append, slip-zero}

pub ends_rise : (es : List ℕ) → (ends_fault es).number ≡ 0 → not_above 1 0 es ≡ 0
ends_rise es h =
    slip-zero 1 (not_above 1 0 es)
    (by_number (slip_at 2 (not_above 1 0 es)) (λ z. z)
    (λ p. rw (or_some (slip_at 2 (not_above 1 0 es)) (first_row (slip_at 3 (too_long max_slip 1 0 es) ∷ [])) p) at h))

module _ (s es : List ℕ) where
  -- rows 4 to 6
  abbrev rest : Refusal
  rest =
      or_else (row 4 (ltb max_letters (length s)) 0)
      (or_else (row 5 (not (eqb (last_or 0 es) (length s))) 0) (or_else (slip_at 6 (bad_slip 1 (slips_of s es))) accepted))

  pub check_many : max_slips < length es → refusal 1 0 ≡ tray_fault s es
  unfolding tray_fault
  check_many h = rw (lt-ltb max_slips (length es) h)

  module _ (h : length es ≤ max_slips) where
    few : tray_fault s es ≡ or_else (ends_fault es) rest
    unfolding tray_fault
    few =
        rw (le-ltb max_slips (length es) h)
        (rows_append (slip_at 2 (not_above 1 0 es) ∷ (slip_at 3 (too_long max_slip 1 0 es) ∷ []))
        (row 4 (ltb max_letters (length s)) 0 ∷ (row 5 (not (eqb (last_or 0 es) (length s))) 0 ∷ (slip_at 6 (bad_slip 1 (slips_of s es)) ∷ []))))

    pub check_order : (f : Fault) → told f ≡ ends_fault es → told f ≡ tray_fault s es
    check_order f e = told-first f (ends_fault es) rest e ∙ sym few

    module _ (e : accepted ≡ ends_fault es) where
      ordered : tray_fault s es ≡ rest
      ordered = few ∙ sym (told_next (ends_fault es) rest e)

      pub check_letters : max_letters < length s → refusal 4 0 ≡ tray_fault s es
      check_letters l = rw (ordered, lt-ltb max_letters (length s) l)

      module _ (l : length s ≤ max_letters) (last : ℕ) (v : last ≡ last_or 0 es) where
        pub check_last : (last ≡ length s → ⊥) → refusal 5 0 ≡ tray_fault s es
        check_last w = rw (ordered, le-ltb max_letters (length s) l, ← v, ne_eqb last (length s) w)

        module _ (w : last ≡ length s) where
          asc : not_above 1 0 es ≡ 0
          asc = ends_rise es (ap (λ (r : Refusal). r.number) (sym e))

          only : tray_fault s es ≡ or_else (slip_at 6 (bad_slip 1 (slips_of s es))) accepted
          only = rw (ordered, le-ltb max_letters (length s) l, eq-eqb (last_or 0 es) (length s) (sym v ∙ w))

          pub check_good : 0 ≡ bad_place 1 s → accepted ≡ tray_fault s es
          check_good b = rw (only, bad_none s es asc (sym v ∙ w) (sym b))

          pub check_bad : (i d : ℕ) → i + 1 ≡ bad_place 1 s → d ≡ slip_holding 1 (i + 1) es → refusal 6 d ≡ tray_fault s es
          check_bad i d b h =
              let n : bad_place 1 s ≡ 0 → ⊥ = λ q. omega arith in
              let k : bad_slip 1 (slips_of s es) ≡ d = bad_some s es asc (sym v ∙ w) n ∙ rw (h, b) in
              let p : 1 ≤ d = rw (h, b) (bad_positive s es asc (sym v ∙ w) n) in
              rw (only, k, le-leb 1 d p)
