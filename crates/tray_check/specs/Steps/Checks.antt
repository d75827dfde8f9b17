-- What the loops of the tray check compute. The laws in proofs/ carry them to the rows of the table.
--   note_long     == the first slip that is too long, after one more slip
--   ends_fault    == rows 2 and 3
--   slip_holding  == the slip, counted from i, that holds a place of the letters
use Rattle.std.specs.Prelude.{true, false, cond, List, [], ◌∷◌, ℕ, zero, suc, ◌+◌, ltb, leb}
use Rattle.trays.specs.declared.Refusal.{Refusal}
use Rattle.trays.specs.Limits.{max_slip}
use Rattle.trays.specs.Faults.{first_row, slip_at, not_above, too_long}

abbrev pub first_of : ℕ → ℕ → ℕ
first_of zero b = b
first_of (suc a) b = suc a

abbrev pub note_long : ℕ → ℕ → ℕ → ℕ → ℕ
note_long long i here e = first_of long (cond (ltb (here + max_slip) e) i 0)

abbrev pub ends_fault : List ℕ → Refusal
ends_fault es = first_row (slip_at 2 (not_above 1 0 es) ∷ (slip_at 3 (too_long max_slip 1 0 es) ∷ []))

abbrev pub slip_holding : ℕ → ℕ → List ℕ → ℕ
slip_holding i p [] = 0
slip_holding i p (e ∷ es) = elim (leb p e) [ true ↦ i | false ↦ slip_holding (suc i) p es ]
