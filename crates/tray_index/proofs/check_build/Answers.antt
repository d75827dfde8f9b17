use Rattle.std.proofs.lemmas.Result.{err_from_is_err_and}
use Rattle.tray_index.proofs.Building.{build_tray, build_short, build_room, count_small}
use Rattle.tray_index.proofs.check_build.Goals as goal

pub returns-in_err-tray-clause-fault : goal.returns-in_err-tray-clause-fault
returns-in_err-tray-clause-fault c =
    let p = err_from_is_err_and c.from_residual.result c.from_residual.ensures.1 in
    rw (p.1, p.2) (build_tray _ _ _ _ _ c.in_err-tray.ensures.fault)

pub overflow_cast-result : goal.overflow_cast-result
overflow_cast-result c = record { fits = count_small _ _ _ c.args.entries c.in_ok-tray.ensures.fault }

pub returns-then-entries-n-clause-fault : goal.returns-then-entries-n-clause-fault
returns-then-entries-n-clause-fault c = search (build_short, c.in_ok-tray.ensures.fault)

pub returns-clause-fault : goal.returns-clause-fault
returns-clause-fault c = search (build_room, c.in_ok-tray.ensures.fault)
