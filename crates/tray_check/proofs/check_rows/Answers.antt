use Rattle.std.proofs.Common.{rules, arith}
use Rattle.std.proofs.lemmas.Result.{err_from_is_err_and}
use Rattle.tray_check.proofs.TextRows.{place-most}
use Rattle.tray_check.proofs.TrayRows.{check_many, check_order, check_letters, check_last, check_good, check_bad}
use Rattle.tray_check.proofs.check_rows.Goals as goal

pub returns-then-ends-gt-MAX_SLIPS : goal.returns-then-ends-gt-MAX_SLIPS
returns-then-ends-gt-MAX_SLIPS c = search check_many

pub returns-in_err-check_ends : goal.returns-in_err-check_ends
returns-in_err-check_ends c =
    let p = err_from_is_err_and c.from_residual.result c.from_residual.ensures.1 in
    rw (p.1, p.2) (search (check_order, c.in_err-check_ends.ensures))

pub returns-then-letters-gt-MAX_LETTERS : goal.returns-then-letters-gt-MAX_LETTERS
returns-then-letters-gt-MAX_LETTERS c = search (check_letters, c.in_ok-check_ends.ensures)

pub returns-then-last_end-letters : goal.returns-then-last_end-letters
returns-then-last_end-letters c = search (check_last, c.in_ok-check_ends.ensures)

pub overflow_add-i : goal.overflow_add-i
overflow_add-i c = omega (arith, place-most c.args.letters.now, c.in-Some.ensures)

pub returns-in-Some : goal.returns-in-Some
returns-in-Some c = search (check_bad, c.in_ok-check_ends.ensures, c.in-Some.ensures)

pub returns-in-None : goal.returns-in-None
returns-in-None c = search (check_good, c.in_ok-check_ends.ensures, c.in-None.ensures)
