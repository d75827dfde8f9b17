use Rattle.std.proofs.Common.{refl}
use Rattle.sheet_of_tray.proofs.ShownSheets.{refused_can, tray_refused, first-room, second_room, third_room, three_printed}
use Rattle.sheet_sizes.proofs.RefusalsFit.{fault_speaks}
use Rattle.sheet_of_tray.proofs.tray_sheets.Goals as goal

pub fault_line-requires : goal.fault_line-requires
fault_line-requires c = refused_can _ _ _ _ c.in-Err.ensures.fault _ _ _ c.requires (fault_speaks c.in-Err.fault)

pub returns-in-Err : goal.returns-in-Err
returns-in-Err c = tray_refused _ _ _ _ c.in-Err.ensures.fault _ _ _ c.requires (fault_speaks c.in-Err.fault) _ _ c.fault_line.ensures

pub add_sheet-first-requires : goal.add_sheet-first-requires
add_sheet-first-requires c =
    let r = first-room _ _ _ _ c.in_default.ensures.fault _ _ _ c.requires refl in
    record { side_room = r.0; sheet_room_in_bounds = r.1 }

pub add_sheet-second-requires : goal.add_sheet-second-requires
add_sheet-second-requires c =
    let r = second_room _ _ _ _ c.in_default.ensures.fault _ _ _ c.requires refl _ _ _ _ c.add_sheet-first.ensures in
    record { side_room = r.0; sheet_room_in_bounds = r.1 }

pub add_sheet-requires : goal.add_sheet-requires
add_sheet-requires c =
    let r = third_room _ _ _ _ c.in_default.ensures.fault _ _ _ c.requires refl _ _ _ _ c.add_sheet-first.ensures _ _ _ _ c.add_sheet-second.ensures in
    record { side_room = r.0; sheet_room_in_bounds = r.1 }

pub returns : goal.returns
returns c =
    three_printed _ _ _ _ c.in_default.ensures.fault _ _ _ c.requires refl _ _ _ _ c.add_sheet-first.ensures
    _ _ _ _ c.add_sheet-second.ensures _ _ _ _ c.add_sheet.ensures
