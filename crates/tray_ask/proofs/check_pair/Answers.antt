use Rattle.std.proofs.lemmas.Result.{err_from_is_err_and}
use Rattle.tray_ask.proofs.Requests.{pair_set, pair_left, pair_right, pair_twice, pair_different}
use Rattle.tray_ask.proofs.check_pair.Goals as goal

pub returns-in_err-tray-clause-fault : goal.returns-in_err-tray-clause-fault
returns-in_err-tray-clause-fault c =
    let p = err_from_is_err_and c.from_residual.result c.from_residual.ensures.1 in
    rw (p.1, p.2) (pair_set _ _ _ _ _ _ _ c.in_err-tray.ensures.fault)

pub returns-in_err-check_request-clause-fault : goal.returns-in_err-check_request-clause-fault
returns-in_err-check_request-clause-fault c =
    let e = c.from_residual-in_err-check_request in
    let p = err_from_is_err_and e.result e.ensures.1 in
    rw (p.1, p.2) (pair_left _ _ _ _ _ _ c.in_ok-tray.ensures.fault _ c.in_err-check_request.ensures)

pub returns-in_err-check_request-2-clause-fault : goal.returns-in_err-check_request-2-clause-fault
returns-in_err-check_request-2-clause-fault c =
    let e = c.from_residual-in_err-check_request-2 in
    let p = err_from_is_err_and e.result e.ensures.1 in
    rw (p.1, p.2) (pair_right _ _ _ _ _ _ c.in_ok-tray.ensures.fault c.in_ok-check_request.ensures _ c.in_err-check_request-2.ensures)

pub returns-then-left-right-clause-fault : goal.returns-then-left-right-clause-fault
returns-then-left-right-clause-fault c =
    pair_twice _ _ _ _ _ _ c.in_ok-tray.ensures.fault c.in_ok-check_request.ensures c.in_ok-check_request-2.ensures c.if-left-right.true

pub returns-clause-fault : goal.returns-clause-fault
returns-clause-fault c =
    pair_different _ _ _ _ _ _ c.in_ok-tray.ensures.fault c.in_ok-check_request.ensures c.in_ok-check_request-2.ensures c.if-left-right.false
