use Rattle.file_line.proofs.LineEnds.{end_within}
use Rattle.file_line.proofs.LineRows.{parse_line, parse_end}
use Rattle.file_line.proofs.line_at.Goals as goal

pub slice_bounds-check_line-end : goal.slice_bounds-check_line-end
slice_bounds-check_line-end c = search end_within

pub returns : goal.returns
returns c = search parse_line
