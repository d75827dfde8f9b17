use Rattle.trays.proofs.WrittenSlips.{letters_count, ends_count, letters_within, ends_within}
use Rattle.sheet_of_files.proofs.FileSteps.{found_lent, text_room, find_can, find_refused, find_printed}
use Rattle.sheet_of_text.proofs.Trims.{take_count}
use Rattle.sheet_sizes.proofs.RefusalsFit.{fault_speaks}
use Rattle.std.proofs.Common.{refl}
use Rattle.sheet_of_files.proofs.find_sheet.Goals as goal

pub fault_line-requires : goal.fault_line-requires
fault_line-requires c =
    find_can _ _ _ _ _ _ _ c.requires _ _ _ _ c.in-Err.ensures (fault_speaks c.in-Err.fault)

pub returns-in-Err : goal.returns-in-Err
returns-in-Err c =
    find_refused _ _ _ _ _ _ _ _ c.requires _ _ _ _ c.in-Err.ensures (fault_speaks c.in-Err.fault) _ _ c.fault_line.ensures

pub slice_bounds-text_sheet-end : goal.slice_bounds-text_sheet-end
slice_bounds-text_sheet-end c =
    letters_within _ _ _ _ _ _ _ _ _ _ c.in-Ok.ensures refl

pub slice_bounds-text_sheet-end-2 : goal.slice_bounds-text_sheet-end-2
slice_bounds-text_sheet-end-2 c =
    letters_count _ _ _ _ _ _ _ _ _ _ c.in-Ok.ensures refl

pub slice_bounds-text_sheet-end-3 : goal.slice_bounds-text_sheet-end-3
slice_bounds-text_sheet-end-3 c =
    ends_within _ _ _ _ _ _ _ _ _ _ c.in-Ok.ensures refl

pub slice_bounds-text_sheet-end-4 : goal.slice_bounds-text_sheet-end-4
slice_bounds-text_sheet-end-4 c =
    ends_count _ _ _ _ _ _ _ _ _ _ c.in-Ok.ensures refl

pub slice_bounds-text_sheet-end-6 : goal.slice_bounds-text_sheet-end-6
slice_bounds-text_sheet-end-6 c = search take_count

pub slice_bounds-text_sheet-end-8 : goal.slice_bounds-text_sheet-end-8
slice_bounds-text_sheet-end-8 c = found_lent _ _ _ _ _ _ c.requires

pub text_sheet-requires : goal.text_sheet-requires
text_sheet-requires c = text_room _ _ _ _ _ _ c.requires

pub returns : goal.returns
returns c =
    find_printed _ _ _ _ _ _ _ _ c.requires _ _ _ _ c.in-Ok.ensures refl _ _
    c.file_text-m.ensures _ _ _ _ c.text_sheet.ensures
