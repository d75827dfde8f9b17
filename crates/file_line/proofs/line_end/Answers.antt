use Rattle.std.proofs.Common.{arith}
use Rattle.file_rule.proofs.FirstLines.{first-length}
use Rattle.file_line.proofs.line_end.Goals as goal

pub overflow_add-result : goal.overflow_add-result
overflow_add-result c = record { fits = omega (arith, first-length c.in-Some.rest.now, c.in-Some.ensures) }
