use Rattle.std.proofs.Common.{arith}
use Rattle.tray_check.proofs.TextRows.{text_long, text_bad, text_good, place-most}
use Rattle.tray_check.proofs.check_text.Goals as goal

pub overflow_cast-result : goal.overflow_cast-result
overflow_cast-result c = omega (arith, place-most c.args.text.now, c.in-Some.ensures)

pub overflow_add-result : goal.overflow_add-result
overflow_add-result c = omega (arith, place-most c.args.text.now, c.in-Some.ensures)

pub returns-then-text-gt-MAX_TEXT : goal.returns-then-text-gt-MAX_TEXT
returns-then-text-gt-MAX_TEXT c = search text_long

pub returns-in-Some : goal.returns-in-Some
returns-in-Some c = search (text_bad, c.in-Some.ensures)

pub returns-in-None : goal.returns-in-None
returns-in-None c = search (text_good, c.in-None.ensures)
