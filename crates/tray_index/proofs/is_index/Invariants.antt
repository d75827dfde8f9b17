-- Invariant: the entries before this one fit, so that the rest of the list decides.
use Rattle.tray_index.proofs.Passing.{PassTo}
use Rattle.tray_index.proofs.is_index.Given as goal

abbrev pub invariant-loop-i : goal.invariant-loop-i
invariant-loop-i l = PassTo l.tray.letters.now l.tray.ends.now l.index l.i
