use native.Mathlib.Omega.{arith}
use Rattle.tray_cut.proofs.WriteLoop.{writing_more}
use Rattle.tray_cut.proofs.WriteLoop.{turn_room, turn_small}
use Rattle.tray_cut.proofs.write_slips.Goals as goal

pub copy-at-requires : goal.copy-at-requires
copy-at-requires c = search turn_room

pub overflow_cast-bounds : goal.overflow_cast-bounds
overflow_cast-bounds c =
    -- the letters written so far and those of the slip are within the limit
    let l = turn_small _ _ _ _ _ _ c.requires _ _ _ _ c.loop-i.invariant c.loop-i-test.true _ c.from.ensures _ c.slip_part-part.ensures in
    omega (arith, l, c.copy-at.ensures)

pub loop-i-preserved : goal.loop-i-preserved
loop-i-preserved c = search writing_more
