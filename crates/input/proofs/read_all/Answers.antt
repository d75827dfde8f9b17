use Rattle.std.proofs.Common.{rules}
use Rattle.input.proofs.Reading.{consumes_more}
use Rattle.input.proofs.read_all.Goals as goal

pub returns-in_err-count-clause-bytes : goal.returns-in_err-count-clause-bytes
returns-in_err-count-clause-bytes g c =
    let x = consumes_more _ _ _ _ _ _ _ c.in_err-count.ensures.count.from c.in_err-count.ensures.front c.loop-done.invariant.2 c.in_err-count.ensures.bytes in
    search (rules, x)

pub loop-done-preserved : goal.loop-done-preserved
loop-done-preserved g c = (
  search (rules, c.in_ok-count.ensures.count),
  search rules,
  consumes_more _ _ _ _ _ _ _ c.in_ok-count.ensures.count.from c.in_ok-count.ensures.front c.loop-done.invariant.2 c.in_ok-count.ensures.bytes,
)
