-- Places as numbers, slip by slip: the place, 1 if the slip is kept, and the letters compared.
--   put_numbers xs k a b c   == the numbers a, b, c for slip k + 1
--   put_place xs p here      == the place of piece p, whose letters go from `here` on less its overlap, and the mark that it is kept
--   placed_by ss xs here ps  == the places of the pieces ps, laid from `here` on
--   aside_at ss t xs i       == the place of slip i + 1 in the legend t, and the letters compared, if no mark says that it is kept
--   aside_by ss t xs n       == the same for the first n slips
--   Placeable               == what placing asks of each piece
--   PlacesAsk, AsideAsk     == what writing the places of n pieces asks, and of the slips set aside
use Rattle.std.specs.Prelude.{◌≡◌, cond, List, [], ◌∷◌, ℕ, zero, suc, ◌+◌, ◌-◌, ◌*◌, ◌≤◌, ◌<◌, eqb, length, get_or, set}
use Rattle.trays.specs.Limits.{max_letters}
use Rattle.trays.specs.Slips.{slips_of, slip}
use Rattle.trays.specs.Faults.{tray_fault}
use Rattle.greedy.specs.Legends.{Piece, added, lowest, tried}
use Rattle.answers.specs.Composing.{place_cells}
use Rattle.legend_chains.specs.Pieces.{pieces_in}

abbrev pub put_numbers : List ℕ → ℕ → ℕ → ℕ → ℕ → List ℕ
put_numbers xs k a b c = set (set (set xs (place_cells * k) a) (place_cells * k + 1) b) (place_cells * k + 2) c

abbrev pub put_place : List ℕ → Piece → ℕ → List ℕ
put_place xs p here = put_numbers xs (p.number - 1) (here - p.overlap) 1 0

abbrev pub placed_by : List (List ℕ) → List ℕ → ℕ → List Piece → List ℕ
placed_by ss xs here [] = xs
placed_by ss xs here (p ∷ ps) = placed_by ss (put_place xs p here) (here + length (added ss p)) ps

abbrev pub aside_at : List (List ℕ) → List ℕ → List ℕ → ℕ → List ℕ
aside_at ss t xs i =
    let x = slip ss (suc i) in
    cond (eqb (get_or xs (place_cells * i + 1) 0) 0) (put_numbers xs i (lowest 1 x t) 0 (tried x t)) xs

abbrev pub aside_by : List (List ℕ) → List ℕ → List ℕ → ℕ → List ℕ
aside_by ss t xs zero = xs
aside_by ss t xs (suc n) = aside_at ss t (aside_by ss t xs n) n

-- each piece names a slip, its overlap reaches no further back than the first letter, and places fit 16 bits
abbrev pub Placeable : List ℕ → List ℕ → ℕ → List Piece → Type 0
Placeable s es here [] = here < 65536
Placeable s es here (p ∷ ps) =
    (1 ≤ p.number) × (p.number ≤ length es) × (p.overlap ≤ here) × (p.overlap ≤ length (slip (slips_of s es) p.number))
    × (here < 65536) × Placeable s es (here + length (added (slips_of s es) p)) ps

pub record PlacesAsk (s es ps : List ℕ) (n : ℕ) (xs : List ℕ) : Type 0 where
  pub tray : (tray_fault s es).number ≡ 0
  pub pairs : 2 * n ≤ length ps
  pub places : place_cells * length es ≤ length xs
  pub fits : Placeable s es 1 (pieces_in ps 0 n)

pub record AsideAsk (s es t xs : List ℕ) : Type 0 where
  pub tray : (tray_fault s es).number ≡ 0
  pub short : length t ≤ max_letters
  pub places : place_cells * length es ≤ length xs
