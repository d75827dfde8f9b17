use Rattle.std.proofs.lemmas.Result.{err_from_is_err_and}
use Rattle.find_core.proofs.Checks.{before_tray, before_text, before_room, before_none}
use Rattle.find_core.proofs.check_find.Goals as goal

pub returns-in_err-tray-clause-fault : goal.returns-in_err-tray-clause-fault
returns-in_err-tray-clause-fault c =
    let p = err_from_is_err_and c.from_residual.result c.from_residual.ensures.1 in
    rw (p.1, p.2) (before_tray _ _ _ _ _ c.in_err-tray.ensures.fault)

pub returns-in_err-check_text-clause-fault : goal.returns-in_err-check_text-clause-fault
returns-in_err-check_text-clause-fault c =
    let e = c.from_residual-in_err-check_text in
    let p = err_from_is_err_and e.result e.ensures.1 in
    rw (p.1, p.2) (before_text _ _ _ _ c.in_ok-tray.ensures.fault _ c.in_err-check_text.ensures)

pub returns-then-cells-lt-WORK_NEED-clause-fault : goal.returns-then-cells-lt-WORK_NEED-clause-fault
returns-then-cells-lt-WORK_NEED-clause-fault c = search (before_room, c.in_ok-tray.ensures.fault, c.in_ok-check_text.ensures)

pub returns-clause-fault : goal.returns-clause-fault
returns-clause-fault c = search (before_none, c.in_ok-tray.ensures.fault, c.in_ok-check_text.ensures)
