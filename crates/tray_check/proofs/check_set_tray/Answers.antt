use Rattle.std.proofs.Common.{rules}
use mathlib.Core.Path.{refl}
use Rattle.tray_check.proofs.SetRows.{set-over, set_good}
use Rattle.tray_check.proofs.check_set_tray.Goals as goal

pub returns-then-least-eq0-clause-fault : goal.returns-then-least-eq0-clause-fault
returns-then-least-eq0-clause-fault c = set-over c.args.least c.args.letters.now c.args.ends.now _ refl c.then-least-eq0.either

pub returns-clause-fault : goal.returns-clause-fault
returns-clause-fault c = search set_good
