-- Invariant: i of the `count` occurrences are told (find_core's Telling); their records stand at the start of the list, and the rest of it is as it was.
use Rattle.std.proofs.Common.{◌≡◌, ◌≤◌}
use Rattle.words.specs.Lists.{over}
use Rattle.store_loops.specs.Firsts.{firsts}
use Rattle.find_core.specs.Steps.Searching.{found_at}
use Rattle.find_core.proofs.Telling.{Telling}
use Rattle.find_slips.proofs.scan_found.Given as goal

abbrev pub invariant-loop-i : goal.invariant-loop-i
invariant-loop-i l = record {
  upto : l.i ≤ l.count;
  telling : Telling l.tray.letters.now l.tray.ends.now l.text l.count l.initial.work l.i l.work;
  found_are : l.found ≡ over (firsts (found_at l.tray.letters.now l.tray.ends.now l.text) l.i) l.initial.found;
}
