use Rattle.std.proofs.lemmas.Result.{err_from_is_err_and}
use Rattle.tray_ask.proofs.Requests.{slip_refused, slip_asked}
use Rattle.tray_ask.proofs.check_slip.Goals as goal

pub returns-in_err-tray-clause-fault : goal.returns-in_err-tray-clause-fault
returns-in_err-tray-clause-fault c =
    let p = err_from_is_err_and c.from_residual.result c.from_residual.ensures.1 in
    rw (p.1, p.2) (slip_refused _ _ _ _ c.in_err-tray.ensures.fault)

pub returns-in_err-check_request-clause-fault : goal.returns-in_err-check_request-clause-fault
returns-in_err-check_request-clause-fault c =
    let e = c.from_residual-in_err-check_request in
    let p = err_from_is_err_and e.result e.ensures.1 in
    rw (p.1, p.2) (slip_asked _ _ _ c.in_ok-tray.ensures.fault _ c.in_err-check_request.ensures)

pub returns-clause-fault : goal.returns-clause-fault
returns-clause-fault c = slip_asked _ _ _ c.in_ok-tray.ensures.fault _ c.in_ok-check_request.ensures
