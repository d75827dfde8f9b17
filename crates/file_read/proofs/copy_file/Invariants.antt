-- Invariant: the first `slips` lines, which end at place `at`, are copied: their `count` letters, their ends and their sides stand at the starts of the
-- three buffers, the rest of these is as it was, and the lines that are left have no fault.
use Prim.Native.Nat.{◌-◌}
use lib.ListN.{length}
use Rattle.file_read.proofs.CopyTurns.{Passed}
use Rattle.file_read.proofs.copy_file.Given as goal

abbrev pub invariant-loop-at : goal.invariant-loop-at
invariant-loop-at l =
    Passed l.file l.initial.letters l.initial.ends l.initial.sides l.letters l.ends l.sides l.at l.count l.slips

abbrev pub decreases-loop-at : goal.decreases-loop-at
decreases-loop-at l = length l.file - l.at
