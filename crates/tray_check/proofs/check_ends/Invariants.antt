-- Invariant: the first i ends rise, the last of them to `here`, so an end that does not rise stands after them; `long` is the first slip that is too long among
-- them.
use Rattle.std.proofs.Common.{◌≡◌, ◌+◌, ◌<◌, drop}
use Rattle.trays.specs.Limits.{max_slip}
use Rattle.trays.specs.Faults.{not_above, too_long}
use Rattle.tray_check.specs.Steps.Checks.{first_of}
use Rattle.tray_check.proofs.CheckLoops.{number, Noted}
use Rattle.tray_check.proofs.check_ends.Given as goal

abbrev pub invariant-loop-i : goal.invariant-loop-i
invariant-loop-i l =
    (l.here < 65536) × Noted l.long × (not_above 1 0 l.ends ≡ not_above (l.i + 1) l.here (drop l.i l.ends)) ×
    (too_long max_slip 1 0 l.ends ≡ first_of (number l.long) (too_long max_slip (l.i + 1) l.here (drop l.i l.ends)))
