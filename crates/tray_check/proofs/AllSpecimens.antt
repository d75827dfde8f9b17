-- Computed specimens of what the loops of the tray check compute.
use mathlib.Core.Path.{◌≡◌, refl}
use mathlib.Core.List.{[], ◌∷◌, map}
use Rattle.words.specs.Quoted.{word}
use Rattle.trays.specs.Faults.{refusal, bad_place}
use Rattle.tray_check.specs.Steps.Checks.{note_long, ends_fault, slip_holding}

-- the first slip that is too long; the slip that holds a place; the first bad byte
loops :
    ((note_long 0 2 40 72 ∷ note_long 0 2 40 73 ∷ note_long 1 2 40 73 ∷ [])
    ∷ map (λ p. slip_holding 1 p (3 ∷ 5 ∷ [])) (1 ∷ 3 ∷ 4 ∷ 6 ∷ [])
    ∷ map (bad_place 1) (word "AB" ∷ word "A--" ∷ [])
    ∷ [])
    ≡ ((0 ∷ 2 ∷ 1 ∷ []) ∷ (1 ∷ 1 ∷ 2 ∷ 0 ∷ []) ∷ (0 ∷ 2 ∷ []) ∷ [])
loops = refl

-- rows 2 and 3
end_rows :
    map ends_fault ((32 ∷ 64 ∷ []) ∷ (33 ∷ 33 ∷ []) ∷ (33 ∷ 66 ∷ []) ∷ [])
    ≡ (refusal 0 0 ∷ refusal 2 2 ∷ refusal 3 1 ∷ [])
end_rows = refl
