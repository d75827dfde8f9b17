use Rattle.sheet_of_tray.proofs.SideSteps.{counts, legend_count, lines_can, side_printed}
use native.Mathlib.Omega.{arith}
use Rattle.sheet_of_tray.proofs.side_sheet.Goals as goal

pub slice_bounds-compose_lines-end : goal.slice_bounds-compose_lines-end
slice_bounds-compose_lines-end c =
    let k = counts _ _ _ _ _ _ _ _ _ _ _ c.requires.side_room.tray c.requires.side_room.work (rw (← c.from-c.ensures) at c.compose_staged-staged.ensures) in
    omega arith

pub slice_bounds-compose_lines-end-2 : goal.slice_bounds-compose_lines-end-2
slice_bounds-compose_lines-end-2 c =
    let k = counts _ _ _ _ _ _ _ _ _ _ _ c.requires.side_room.tray c.requires.side_room.work (rw (← c.from-c.ensures) at c.compose_staged-staged.ensures) in
    omega arith

pub slice_bounds-compose_lines-end-3 : goal.slice_bounds-compose_lines-end-3
slice_bounds-compose_lines-end-3 c =
    (counts _ _ _ _ _ _ _ _ _ _ _ c.requires.side_room.tray c.requires.side_room.work (rw (← c.from-c.ensures) at c.compose_staged-staged.ensures)).legend_fits

pub slice_bounds-compose_lines-end-4 : goal.slice_bounds-compose_lines-end-4
slice_bounds-compose_lines-end-4 c =
    legend_count _ _ _ _ _ _ _ _ _ _ _ c.requires.side_room.tray c.requires.side_room.work (rw (← c.from-c.ensures) at c.compose_staged-staged.ensures)

pub compose_lines-requires : goal.compose_lines-requires
compose_lines-requires c =
    lines_can _ _ _ _ _ _ _ _ _ _ _ c.requires.side_room.tray c.requires.side_room.work
    (rw (← c.from-c.ensures) at c.compose_staged-staged.ensures) _ c.requires.sheet_room_in_bounds

pub returns : goal.returns
returns c =
    side_printed _ _ _ _ _ _ c.requires.side_room _ _ _ (rw (← c.from-c.ensures) at c.compose_staged-staged.ensures) _ _ _ c.compose_lines.ensures
