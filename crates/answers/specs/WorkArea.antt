-- The lent work area as a caller sees it.
--   work_row w        == place B, work area: 7, of w cells
--   WorkKept f w w'  == the work area is untouched where f, what the rows before place C give, is a refusal; it keeps its length always
use Rattle.std.specs.Prelude.{◌≡◌, List, ℕ, ◌≤◌, ltb, length}
use Rattle.trays.specs.declared.Refusal.{Refusal}
use Rattle.trays.specs.Limits.{work_need}
use Rattle.trays.specs.Faults.{row}

abbrev pub work_row : ℕ → Refusal
work_row w = row 7 (ltb w work_need) 0

-- Rules: only the work area may differ, and only from place C on.
pub record WorkKept (f : Refusal) (w w' : List ℕ) : Type 0 where
  pub same : length w' ≡ length w
  pub untouched : 1 ≤ f.number → w' ≡ w
