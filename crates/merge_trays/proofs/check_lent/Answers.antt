use Rattle.merge_trays.proofs.InputRows.{lent_few, lent_enough}
use Rattle.merge_trays.proofs.check_lent.Goals as goal

pub returns-then-letters-lt-MAX_LETTERS : goal.returns-then-letters-lt-MAX_LETTERS
returns-then-letters-lt-MAX_LETTERS c = lent_few _ _ _ c.then-letters-lt-MAX_LETTERS.either

pub returns : goal.returns
returns c = search lent_enough
