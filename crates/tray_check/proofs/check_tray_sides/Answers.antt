use Rattle.std.proofs.lemmas.Result.{err_from_is_err_and}
use Rattle.tray_check.proofs.SideRows.{whole_tray, whole_sides}
use Rattle.tray_check.proofs.check_tray_sides.Goals as goal

pub returns-in_err-tray-clause-fault : goal.returns-in_err-tray-clause-fault
returns-in_err-tray-clause-fault c =
    let p = err_from_is_err_and c.from_residual.result c.from_residual.ensures.1 in
    rw (p.1, p.2) (whole_tray c.args.letters.now c.args.ends.now c.args.sides.now _ c.in_err-tray.ensures.fault)

pub returns-in_err-check_sides-clause-fault : goal.returns-in_err-check_sides-clause-fault
returns-in_err-check_sides-clause-fault c =
    let e = c.from_residual-in_err-check_sides in
    let p = err_from_is_err_and e.result e.ensures.1 in
    rw (p.1, p.2) (whole_sides c.args.letters.now c.args.ends.now c.args.sides.now c.in_ok-tray.ensures.fault _ c.in_err-check_sides.ensures)

pub returns-clause-fault : goal.returns-clause-fault
returns-clause-fault c = whole_sides c.args.letters.now c.args.ends.now c.args.sides.now c.in_ok-tray.ensures.fault _ c.in_ok-check_sides.ensures
