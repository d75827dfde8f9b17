use native.Mathlib.Omega.{arith}
use Rattle.std.proofs.lemmas.Result.{err_from_is_err_and}
use Rattle.merge_trays.proofs.MergeSteps.{few_and_small, sizes_refused, can_write_sides, sizes_within}
use Rattle.merge_trays.proofs.merge_sided.Goals as goal

pub overflow_add-first : goal.overflow_add-first
overflow_add-first c =
    let one = c.args.first in
    let two = c.args.second in
    record { fits = omega (arith, few_and_small _ _ _ _ _ _ one.tray.accepted one.as_many two.tray.accepted two.as_many _ c.new_slips-new.ensures) }

pub returns-in_err-check_size : goal.returns-in_err-check_size
returns-in_err-check_size c =
    let one = c.args.first in
    let two = c.args.second in
    let p = err_from_is_err_and c.from_residual.result c.from_residual.ensures.1 in
    rw (p.1, p.2)
    (sizes_refused _ _ _ _ _ _ one.tray.accepted one.as_many two.tray.accepted two.as_many _ c.new_slips-new.ensures _ _ _ _ c.in_err-check_size.ensures)

pub write_sides-requires : goal.write_sides-requires
write_sides-requires c =
    let one = c.args.first in
    let two = c.args.second in
    can_write_sides _ _ _ _ _ _ one.tray.accepted one.as_many two.tray.accepted two.as_many _ c.new_slips-new.ensures c.args.letters.now c.args.ends.now _
    c.requires c.in_ok-check_size.ensures

pub returns : goal.returns
returns c =
    let one = c.args.first in
    let two = c.args.second in
    sizes_within _ _ _ _ _ _ one.tray.accepted one.as_many two.tray.accepted two.as_many _ c.new_slips-new.ensures _ _ _ c.requires
    c.in_ok-check_size.ensures _ _ _ _ c.write_merged-size.ensures c.write_sides.ensures
