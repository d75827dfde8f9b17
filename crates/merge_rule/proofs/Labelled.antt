-- Slips with their sides in front of their letters.
--   letters-labelled, sides_labelled == slips and sides, put together and taken apart again
--   labelled_count   == there are as many as slips
--   slip-labelled    == slip i is its side and its letters
--   side_at          == the side of a labelled slip stands in front of it
--   side_members     == the slips of a side, by what stands in front of them
use mathlib.Core.Path.{◌≡◌, refl, ap}
use mathlib.Core.List.{List, [], ◌∷◌}
use Prim.Native.Nat.{ℕ, zero, suc, ◌≤◌, ◌<◌}
use native.Mathlib.Omega.{arith}
use lib.Dec.{eqb}
use lib.ListN.{length, get_or, length-map, get_or-map}
use Rattle.words.specs.Lists.{those, head_or, tail_of}
use Rattle.words.proofs.Picks.{those-same}
use Rattle.trays.specs.Slips.{slip, numbers}
use Rattle.trays.specs.Sides.{side_of, of_side}
use Rattle.merge_rule.specs.Merging.{labelled, letters_among, sides_among}

pub letters-labelled : (xs : List (List ℕ)) (cs : List ℕ) → letters_among (labelled xs cs) ≡ xs
letters-labelled [] cs = refl
letters-labelled (x ∷ xs) cs = ap (λ l. x ∷ l) (letters-labelled xs (tail_of cs))

pub sides_labelled : (xs : List (List ℕ)) (cs : List ℕ) → length cs ≡ length xs → sides_among (labelled xs cs) ≡ cs
sides_labelled [] [] e = refl
sides_labelled [] (c ∷ cs) e = absurd (omega arith)
sides_labelled (x ∷ xs) [] e = absurd (omega arith)
sides_labelled (x ∷ xs) (c ∷ cs) e = ap (λ l. c ∷ l) (sides_labelled xs cs (omega arith))

pub labelled_count : (xs : List (List ℕ)) (cs : List ℕ) → length (labelled xs cs) ≡ length xs
labelled_count [] cs = refl
labelled_count (x ∷ xs) cs = ap suc (labelled_count xs (tail_of cs))

labelled_at : (xs : List (List ℕ)) (cs : List ℕ) (i : ℕ) → i < length xs → i < length cs → get_or (labelled xs cs) i [] ≡ get_or cs i 0 ∷ get_or xs i []
labelled_at [] cs i h l = absurd (omega arith)
labelled_at (x ∷ xs) [] i h l = absurd (omega arith)
labelled_at (x ∷ xs) (c ∷ cs) zero h l = refl
labelled_at (x ∷ xs) (c ∷ cs) (suc i) h l = labelled_at xs cs i (omega arith) (omega arith)

pub slip-labelled : (xs : List (List ℕ)) (cs : List ℕ) (i : ℕ) → 1 ≤ i → i ≤ length xs → i ≤ length cs → slip (labelled xs cs) i ≡ side_of cs i ∷ slip xs i
slip-labelled xs cs zero p h l = absurd (omega arith)
slip-labelled xs cs (suc i) p h l = labelled_at xs cs i (omega arith) (omega arith)

pub side_at : (zs : List (List ℕ)) (i : ℕ) → side_of (sides_among zs) i ≡ head_or 0 (slip zs i)
side_at zs zero = refl
side_at zs (suc i) = get_or-map (head_or 0) zs i []

pub side_members : (zs : List (List ℕ)) (b : ℕ) → of_side (sides_among zs) b ≡ those (λ i. eqb (head_or 0 (slip zs i)) b) (numbers zs)
side_members zs b = rw (length-map zs (head_or 0)) (those-same _ _ (numbers zs) (λ i m. ap (λ c. eqb c b) (side_at zs i)))
