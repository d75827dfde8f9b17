-- The line that `next` hands out is the one at which the reader stands.
use Rattle.std.proofs.Common.{ap, ◌∙◌}
use Rattle.file_check.proofs.CheckTurns.{goes_on, ends_bad, ends_good}
use Rattle.file_check.proofs.check_lines.Goals as goal

pub returns-in-Err : goal.returns-in-Err
returns-in-Err c =
    let e = rw c.loop-reader.invariant.file_is at c.next-line.ensures.line-is in
    c.refused_line.ensures
    ∙ ends_bad c.args.file.now c.loop-reader.reader.at c.loop-reader.k c.next-line.result c.loop-reader.invariant.passed c.loop-reader-test.true e
    _ c.in-Err.is

pub loop-reader-preserved : goal.loop-reader-preserved
loop-reader-preserved c =
    let e = rw c.loop-reader.invariant.file_is at c.next-line.ensures.line-is in
    record {
      file_is = ap (λ f. f.now) c.next-line.ensures.file_is ∙ c.loop-reader.invariant.file_is;
      passed =
          rw c.next-line.ensures.at_is
          (goes_on c.args.file.now c.loop-reader.reader.at c.loop-reader.k c.next-line.result c.loop-reader.invariant.passed c.loop-reader-test.true e
          _ c.in_default.is);
    }

pub returns : goal.returns
returns c = ends_good c.args.file.now c.loop-reader.reader.at c.loop-reader.k c.loop-reader.invariant.passed c.loop-reader-test.false
