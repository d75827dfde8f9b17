-- What is claimed of folding.
--   differs t b  == the table t has another sign for b than the rule
--   FoldTable   == a table that differs from the rule at no byte has the rule
--   FoldSign    == a byte is outside the signs once it is folded just where it is folded to 0
use Rattle.std.specs.Prelude.{◌≡◌, Bool, false, not, List, ℕ, ◌<◌, eqb, get_or}
use Rattle.words.specs.Lists.{any, up_from}
use Rattle.trays.specs.Slips.{is_letter}
use Rattle.fold_rule.specs.Folding.{fold}

abbrev pub differs : List ℕ → ℕ → Bool
differs t b = not (eqb (get_or t b 0) (fold b))

-- Rules, folding: the rule is shown over the whole table in one test, which antt computes.
abbrev pub FoldTable : Type 0
FoldTable = (t : List ℕ) → any (differs t) (up_from 0 256) ≡ false → (b : ℕ) → b < 256 → get_or t b 0 ≡ fold b

-- Rules, folding: 6 and 13 judge the folded byte, and a byte that is folded to 0 gives them.
abbrev pub FoldSign : Type 0
FoldSign = (b : ℕ) → is_letter (fold b) ≡ not (eqb (fold b) 0)
