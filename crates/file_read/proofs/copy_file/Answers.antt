-- What is known once a line's end is found is CopyTurns' Turn; the rest is arithmetic on it.
use Rattle.std.proofs.Common.{arith}
use Rattle.file_read.proofs.CopyTurns.{turn, passed_more, passed_all}
use Rattle.file_read.proofs.copy_file.Goals as goal

pub overflow_sub-end : goal.overflow_sub-end
overflow_sub-end c =
    omega (arith, turn _ _ _ _ _ _ _ _ _ _ c.requires c.loop-at.invariant c.line_end-next.result c.loop-at-test.true c.line_end-next.ensures)

pub slice_bounds-file_letters-count : goal.slice_bounds-file_letters-count
slice_bounds-file_letters-count c =
    omega (arith, turn _ _ _ _ _ _ _ _ _ _ c.requires c.loop-at.invariant c.line_end-next.result c.loop-at-test.true c.line_end-next.ensures)

pub slice_bounds-file_letters-start : goal.slice_bounds-file_letters-start
slice_bounds-file_letters-start c =
    omega (arith, turn _ _ _ _ _ _ _ _ _ _ c.requires c.loop-at.invariant c.line_end-next.result c.loop-at-test.true c.line_end-next.ensures)

pub slice_bounds-file_letters-end : goal.slice_bounds-file_letters-end
slice_bounds-file_letters-end c =
    omega (arith, turn _ _ _ _ _ _ _ _ _ _ c.requires c.loop-at.invariant c.line_end-next.result c.loop-at-test.true c.line_end-next.ensures)

pub overflow_sub-count : goal.overflow_sub-count
overflow_sub-count c =
    omega (arith, turn _ _ _ _ _ _ _ _ _ _ c.requires c.loop-at.invariant c.line_end-next.result c.loop-at-test.true c.line_end-next.ensures)

pub bounds-file-at : goal.bounds-file-at
bounds-file-at c =
    omega (arith, turn _ _ _ _ _ _ _ _ _ _ c.requires c.loop-at.invariant c.line_end-next.result c.loop-at-test.true c.line_end-next.ensures)

pub loop-at-smaller : goal.loop-at-smaller
loop-at-smaller c =
    omega (arith, turn _ _ _ _ _ _ _ _ _ _ c.requires c.loop-at.invariant c.line_end-next.result c.loop-at-test.true c.line_end-next.ensures)

pub loop-at-preserved : goal.loop-at-preserved
loop-at-preserved c =
    passed_more _ _ _ _ _ _ _ _ _ _ c.requires c.loop-at.invariant c.line_end-next.result c.loop-at-test.true c.line_end-next.ensures _
    c.file_letters.ensures

pub returns : goal.returns
returns c = passed_all _ _ _ _ _ _ _ _ _ _ c.loop-at.invariant c.loop-at-test.false
