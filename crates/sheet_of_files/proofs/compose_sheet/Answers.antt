use Rattle.trays.proofs.WrittenSlips.{letters_count, ends_count, letters_within, ends_within}
use Rattle.sheet_of_files.proofs.FileSteps.{sides_there, compose_can, compose_refused, compose_printed}
use Rattle.sheet_of_text.proofs.Trims.{take_count}
use Rattle.sheet_sizes.proofs.RefusalsFit.{fault_speaks}
use Rattle.std.proofs.Common.{refl}
use native.Mathlib.Omega.{arith}
use Rattle.sheet_of_files.proofs.compose_sheet.Goals as goal

pub fault_line-requires : goal.fault_line-requires
fault_line-requires c =
    compose_can _ _ _ _ _ _ _ c.requires _ _ _ _ c.in-Err.ensures (fault_speaks c.in-Err.refused)

pub returns-in-Err : goal.returns-in-Err
returns-in-Err c =
    compose_refused _ _ _ _ _ _ _ c.requires _ _ _ _ c.in-Err.ensures (fault_speaks c.in-Err.refused) _ _ c.fault_line.ensures

pub slice_bounds-tray_sheets-end : goal.slice_bounds-tray_sheets-end
slice_bounds-tray_sheets-end c =
    letters_within _ _ _ _ _ _ _ _ _ _ c.in-Ok.ensures refl

pub slice_bounds-tray_sheets-end-2 : goal.slice_bounds-tray_sheets-end-2
slice_bounds-tray_sheets-end-2 c =
    letters_count _ _ _ _ _ _ _ _ _ _ c.in-Ok.ensures refl

pub slice_bounds-tray_sheets-end-3 : goal.slice_bounds-tray_sheets-end-3
slice_bounds-tray_sheets-end-3 c =
    ends_within _ _ _ _ _ _ _ _ _ _ c.in-Ok.ensures refl

pub slice_bounds-tray_sheets-end-4 : goal.slice_bounds-tray_sheets-end-4
slice_bounds-tray_sheets-end-4 c =
    ends_count _ _ _ _ _ _ _ _ _ _ c.in-Ok.ensures refl

pub slice_bounds-tray_sheets-end-5 : goal.slice_bounds-tray_sheets-end-5
slice_bounds-tray_sheets-end-5 c =
    let there = sides_there _ _ _ _ _ _ _ _ c.in-Ok.ensures refl in
    omega arith

pub slice_bounds-tray_sheets-end-6 : goal.slice_bounds-tray_sheets-end-6
slice_bounds-tray_sheets-end-6 c =
    let there = sides_there _ _ _ _ _ _ _ _ c.in-Ok.ensures refl in
    search take_count

pub returns : goal.returns
returns c =
    compose_printed _ _ _ _ _ _ _ c.requires _ _ _ _ c.in-Ok.ensures refl _ _ _ _ c.tray_sheets.ensures
