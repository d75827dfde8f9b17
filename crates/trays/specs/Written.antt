-- Slips written as a tray into lent letters, ends and sides: what a call that does so answers, and what the three buffers hold afterwards.
--   letters_of xs      == the letters of the slips xs, one after another
--   ends_from here xs  == the ends of the slips xs, where letters come before them up to `here`; ends_of xs == where none do
--   size_rows xs       == rows 1 and 4 of a tray written of the slips xs
--   wrote xs          == the answer once the slips xs are written
--   written_by f xs    == the answer, where f is what refuses the call
--   TrayWritten       == the promise, of slips xs with the sides cs: lent letters a, ends b and sides d before, a', b' and d' after; answer r
use Rattle.std.specs.Prelude.{◌≡◌, List, [], ◌∷◌, ℕ, zero, suc, ◌+◌, ltb, length}
use Rattle.words.specs.Lists.{each}
use Rattle.trays.specs.declared.Refusal.{Refusal}
use Rattle.trays.specs.declared.Written.{Written}
use Rattle.trays.specs.Limits.{max_slips, max_letters}
use Rattle.trays.specs.Faults.{row, written}

abbrev pub letters_of : List (List ℕ) → List ℕ
letters_of xs = each (λ x. x) xs

abbrev pub ends_from : ℕ → List (List ℕ) → List ℕ
ends_from here [] = []
ends_from here (x ∷ xs) = let e = here + length x in e ∷ ends_from e xs

abbrev pub ends_of : List (List ℕ) → List ℕ
ends_of xs = ends_from 0 xs

abbrev pub size_rows : List (List ℕ) → List Refusal
size_rows xs = row 1 (ltb max_slips (length xs)) 0 ∷ (row 4 (ltb max_letters (length (letters_of xs))) 0 ∷ [])

abbrev pub wrote : List (List ℕ) → Written
wrote xs = record { number = 0; detail = 0; letters = length (letters_of xs); slips = length xs }

abbrev pub written_by : Refusal → List (List ℕ) → Written
written_by f xs = elim f.number [ zero ↦ wrote xs | suc n ↦ record { number = suc n; detail = f.detail; letters = 0; slips = 0 } ]

pub record TrayWritten (f : Refusal) (xs : List (List ℕ)) (cs a a' b b' d d' : List ℕ) (r : Written) : Type 0 where
  pub answer-is : r ≡ written_by f xs
  pub letters_are : a' ≡ written f (letters_of xs) a
  pub ends_are : b' ≡ written f (ends_of xs) b
  pub sides_are : d' ≡ written f cs d
