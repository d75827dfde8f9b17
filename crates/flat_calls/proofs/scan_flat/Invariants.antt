-- Invariant: the end place and slip of each of the first i occurrences stand at the start of `found`, the rest of `found` is as it was, and the scan
-- in the work area has reported these i.
use Rattle.flat_calls.proofs.FlatLoop.{Flattening}
use Rattle.flat_calls.proofs.scan_flat.Given as goal

abbrev pub invariant-loop-i : goal.invariant-loop-i
invariant-loop-i l = Flattening l.tray.letters.now l.tray.ends.now l.text l.count l.initial.work l.work l.initial.found l.found l.i
