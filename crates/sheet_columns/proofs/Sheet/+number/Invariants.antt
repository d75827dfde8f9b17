-- Measure: the number n that is left to be written: its tenth is lower.
use Rattle.sheet_columns.proofs.Sheet.+number.Given as goal

abbrev pub decreases-number : goal.decreases-number
decreases-number l = l.n
