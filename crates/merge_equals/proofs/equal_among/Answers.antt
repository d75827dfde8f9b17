use Rattle.std.proofs.Common.{rules}
use Rattle.merge_equals.proofs.Comparing.{equal_here, equal_next}
use Rattle.merge_equals.proofs.equal_among.Goals as goal

pub returns-then-same_slip : goal.returns-then-same_slip
returns-then-same_slip c = search equal_here

pub loop-i-preserved : goal.loop-i-preserved
loop-i-preserved c = (search rules, search equal_next)
