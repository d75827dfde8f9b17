-- The sheets of a tray whose sides are all blank are the one sheet that it had before there were sides.
use mathlib.Core.Path.{◌≡◌, refl, ◌∙◌, ap}
use mathlib.Core.Bool.{true, false, ◌||◌}
use mathlib.Core.List.{List, [], ◌∷◌, append-nil}
use Prim.Native.Nat.{ℕ, zero, suc}
use native.Mathlib.Omega.{arith}
use borrow.Author.Tests.{le-leb}
use lib.Dec.{leb, eqb}
use lib.ListN.{length}
use Rattle.words.specs.Lists.{each, those, All, up_from}
use Rattle.words.proofs.Members.{those-yes, those_no}
use Rattle.words.proofs.Runs.{length-up_from}
use Rattle.trays.specs.Sides.{blank_side, obverse, reverse}
use Rattle.greedy.specs.Composing.{usual_of, usual, among, sided}
use Rattle.greedy.proofs.SideLists.{side_all, side_none}
use Rattle.sheet_rule.specs.Sheets.{side_sheet_of}
use Rattle.sheet_rule.specs.Sides.{is_shown, BlankSheets}

module _ (cs : List ℕ) (a : All (λ b. b ≡ blank_side) cs) where
  shown : is_shown cs blank_side ≡ true
  shown = rw (side_all cs blank_side a, length-up_from 1 (length cs)) (some (length cs))
    where
      some : (n : ℕ) → leb 1 n || eqb n 0 ≡ true
      some zero = refl
      some (suc n) = rw (le-leb 1 (suc n) (omega arith))

  not_shown : (b : ℕ) → (blank_side ≡ b → ⊥) → eqb b blank_side ≡ false → is_shown cs b ≡ false
  not_shown b n e = rw (side_none cs blank_side a b n, e)

pub blank_sheets : BlankSheets
blank_sheets cs ss n a =
    ap (each (λ b. side_sheet_of b (sided (usual_of b) cs ss))) one
    ∙ (append-nil (side_sheet_of blank_side (sided usual cs ss))
    ∙ ap (λ (M : List ℕ). side_sheet_of blank_side (among usual M ss)) (side_all cs blank_side a ∙ ap (up_from 1) n))
  where
    one : those (is_shown cs) (blank_side ∷ (obverse ∷ (reverse ∷ []))) ≡ blank_side ∷ []
    one =
        those-yes (is_shown cs) blank_side (obverse ∷ (reverse ∷ [])) (shown cs a)
        ∙ ap (λ (bs : List ℕ). blank_side ∷ bs)
        (those_no (is_shown cs) obverse (reverse ∷ []) (not_shown cs a obverse (λ e. omega (arith, e)) refl)
        ∙ those_no (is_shown cs) reverse [] (not_shown cs a reverse (λ e. omega (arith, e)) refl))
