use Rattle.std.proofs.Common.{rules}
use Rattle.merge_equals.proofs.Comparing.{new_first, new_second}
use Rattle.merge_equals.proofs.is_new.Goals as goal

pub returns-then-not-equal_among : goal.returns-then-not-equal_among
returns-then-not-equal_among c = search (rules, new_second)

pub returns-else-not-equal_among : goal.returns-else-not-equal_among
returns-else-not-equal_among c = search (rules, new_first)
