-- What the loops ask of the table.
--   Folds t  == the table t has for each byte the sign that it is filed as
use Rattle.std.specs.Prelude.{◌≡◌, List, ℕ, ◌<◌, get_or}
use Rattle.fold_rule.specs.Folding.{fold}

abbrev pub Folds : List ℕ → Type 0
Folds t = (b : ℕ) → b < 256 → get_or t b 0 ≡ fold b
