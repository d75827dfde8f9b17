-- Invariant: the slips of the first i numbers are written, and have `at` letters; the rest of both buffers is as it was.
use Rattle.tray_cut.proofs.WriteLoop.{Writing}
use Rattle.tray_cut.proofs.write_slips.Given as goal

abbrev pub invariant-loop-i : goal.invariant-loop-i
invariant-loop-i l = Writing l.tray.letters.now l.tray.ends.now l.slips l.here l.initial.into l.initial.bounds l.into l.bounds l.at l.i
