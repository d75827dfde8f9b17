use Rattle.std.proofs.Common.{sym}
use Rattle.tray_check.proofs.CheckLoops.{last_told}
use Rattle.tray_check.proofs.last_end.Goals as goal

pub returns-in-Some : goal.returns-in-Some
returns-in-Some c = let h = c.in-Some.ensures.value in last_told c.args.ends.now c.in-Some.end.now _ (sym h) c.from.ensures
