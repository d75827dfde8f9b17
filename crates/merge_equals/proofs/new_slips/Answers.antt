use mathlib.Core.Path.{refl}
use Rattle.std.proofs.Common.{rules}
use Rattle.merge_equals.proofs.NewSteps.{found_fits, found_room, found_old, found_new, found_total, found_all}
use Rattle.merge_equals.proofs.new_slips.Goals.{then-is_new, else-is_new}
use Rattle.merge_equals.proofs.new_slips.Goals as goal

pub overflow_cast-slips : goal.overflow_cast-slips
overflow_cast-slips c = record { fits = search (rules, found_fits) }

pub bounds-slips-count : goal.bounds-slips-count
bounds-slips-count c = search (rules, found_room)

pub overflow_add-letters : goal.overflow_add-letters
overflow_add-letters c = record { fits = search (rules, found_total) }

pub loop-i-preserved : goal.loop-i-preserved
loop-i-preserved c =
    elim c.if-is_new.branch [
      | then-is_new w ↦
          rw (w.slips-is, w.count-is, w.letters-is)
          (found_new _ _ _ _ _ _ c.args.second.tray.accepted _ _ _ _ c.loop-i.invariant c.loop-i-test.true _ refl _ c.is_new.ensures
          w.if-is_new.true _ w.slip_part.ensures _ _ _ refl refl refl)
      | else-is_new w ↦
          rw (w.slips-is, w.count-is, w.letters-is)
          (found_old _ _ _ _ _ _ c.args.second.tray.accepted _ _ _ _ c.loop-i.invariant c.loop-i-test.true _ refl _ c.is_new.ensures w.if-is_new.false)
    ]

pub returns : goal.returns
returns c = search (rules, found_all)
