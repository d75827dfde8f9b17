-- Refusals 21, 1 to 6, 10, 12 and 13 with their details, as the rows of the rules' table, and the row 11. Row 22 stands in Sides, and after it the rows
-- of a pair.
--   row n b d     == the row numbered n with detail d if its condition b holds, else no refusal
--   first_row rs   == the first refusal of the rows, which are taken top to bottom
--   written f xs old == a lent buffer afterwards: xs written over its first part, unless f refuses the call
--   bad_place i s  == the place, counted from i, of the first byte outside the signs; 0 for none
--   too_long m ..  == the lowest slip of more than m letters; 0 for none
--   tray_rows_for m == place B, tray: 1 to 6, where a slip may have m letters
--   tray_rows      == the same for the limit that holds
--   tray_fault     == what refuses the tray itself, or 0
--   least_row m    == place B, settings: 21
--   set_rows m     == place B, settings and tray; set_fault == what refuses these, or 0
--   slip_row       == place B, request: 10
--   pair_row       == place B, request: 11
--   text_rows t    == place B, text: 12 and 13, of the letters of a text or a typed beginning
use Rattle.std.specs.Prelude.{Bool, true, false, cond, ◌||◌, not, List, [], ◌∷◌, ◌++◌, ℕ, zero, suc, ◌+◌, eqb, ltb, leb, length}
use Rattle.words.specs.Lists.{any, last_or, over}
use Rattle.trays.specs.declared.Refusal.{Refusal}
use Rattle.trays.specs.Limits.{max_slips, max_slip, max_letters, max_least, max_text}
use Rattle.trays.specs.Slips.{slips_of, is_letter}

abbrev pub refusal : ℕ → ℕ → Refusal
refusal n d = record { number = n; detail = d }

abbrev pub accepted : Refusal
accepted = refusal 0 0

abbrev pub row : ℕ → Bool → ℕ → Refusal
row n b d = cond b (refusal n d) accepted

abbrev pub or_else : Refusal → Refusal → Refusal
or_else f g = elim f.number [ zero ↦ g | suc n ↦ f ]

abbrev pub first_row : List Refusal → Refusal
first_row [] = accepted
first_row (r ∷ rs) = or_else r (first_row rs)

abbrev pub written : {A : Type 0} → Refusal → List A → List A → List A
written f xs old = elim f.number [ zero ↦ over xs old | suc n ↦ old ]

-- the lowest slip, counted from i, whose end is not above the one before; 0 for none
abbrev pub not_above : ℕ → ℕ → List ℕ → ℕ
not_above i here [] = 0
not_above i here (e ∷ es) = elim (leb e here) [ true ↦ i | false ↦ not_above (suc i) e es ]

-- the lowest slip, counted from i, of more than m letters; 0 for none
abbrev pub too_long : ℕ → ℕ → ℕ → List ℕ → ℕ
too_long m i here [] = 0
too_long m i here (e ∷ es) = elim (ltb (here + m) e) [ true ↦ i | false ↦ too_long m (suc i) e es ]

-- the lowest slip with a byte outside the signs; 0 for none
abbrev pub bad_slip : ℕ → List (List ℕ) → ℕ
bad_slip i [] = 0
bad_slip i (x ∷ xs) = elim (any (λ b. not (is_letter b)) x) [ true ↦ i | false ↦ bad_slip (suc i) xs ]

abbrev pub bad_place : ℕ → List ℕ → ℕ
bad_place i [] = 0
bad_place i (b ∷ bs) = elim (is_letter b) [ true ↦ bad_place (suc i) bs | false ↦ i ]

-- the row numbered n with the slip d that is at fault, where d is not 0
abbrev pub slip_at : ℕ → ℕ → Refusal
slip_at n d = row n (leb 1 d) d

abbrev pub tray_rows_for : ℕ → List ℕ → List ℕ → List Refusal
tray_rows_for m s es =
    row 1 (ltb max_slips (length es)) 0
    ∷ (slip_at 2 (not_above 1 0 es)
    ∷ (slip_at 3 (too_long m 1 0 es)
    ∷ (row 4 (ltb max_letters (length s)) 0
    ∷ (row 5 (not (eqb (last_or 0 es) (length s))) 0
    ∷ (slip_at 6 (bad_slip 1 (slips_of s es)) ∷ [])))))

abbrev pub tray_rows : List ℕ → List ℕ → List Refusal
tray_rows s es = tray_rows_for max_slip s es

unfoldable pub tray_fault : List ℕ → List ℕ → Refusal
tray_fault s es = first_row (tray_rows s es)

-- Rules, least overlap: from 1 to its limit.
abbrev pub least_row : ℕ → Refusal
least_row m = row 21 (eqb m 0 || ltb max_least m) 0

-- Rules, place B: the settings are checked first.
abbrev pub set_rows : ℕ → List ℕ → List ℕ → List Refusal
set_rows m s es = least_row m ∷ tray_rows s es

unfoldable pub set_fault : ℕ → List ℕ → List ℕ → Refusal
set_fault m s es = first_row (set_rows m s es)

abbrev pub slip_row : List ℕ → ℕ → Refusal
slip_row es i = row 10 (eqb i 0 || ltb (length es) i) i

unfoldable pub slip_fault : List ℕ → List ℕ → ℕ → Refusal
slip_fault s es i = first_row (tray_rows s es ++ (slip_row es i ∷ []))

abbrev pub pair_row : ℕ → ℕ → Refusal
pair_row i j = row 11 (eqb i j) i

abbrev pub text_rows : List ℕ → List Refusal
text_rows t = row 12 (ltb max_text (length t)) 0 ∷ (row 13 (leb 1 (bad_place 1 t)) (bad_place 1 t) ∷ [])
