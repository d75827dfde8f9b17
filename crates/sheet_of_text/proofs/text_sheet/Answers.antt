use Rattle.sheet_of_text.proofs.TextSteps.{refused_can, text_refused, found_within, found_count, lines_can, text_printed}
use Rattle.sheet_sizes.proofs.RefusalsFit.{fault_speaks}
use Rattle.std.proofs.Common.{refl}
use Rattle.sheet_of_text.proofs.text_sheet.Goals as goal

pub fault_line-requires : goal.fault_line-requires
fault_line-requires c = refused_can _ _ _ _ _ _ c.requires _ _ _ c.in-Err.ensures (fault_speaks c.in-Err.fault)

pub returns-in-Err : goal.returns-in-Err
returns-in-Err c = text_refused _ _ _ _ _ _ c.requires _ _ _ c.in-Err.ensures (fault_speaks c.in-Err.fault) _ _ c.fault_line.ensures

pub slice_bounds-find_lines-end : goal.slice_bounds-find_lines-end
slice_bounds-find_lines-end c = found_within _ _ _ _ _ _ c.requires _ _ _ c.in-Ok.ensures refl

pub slice_bounds-find_lines-end-2 : goal.slice_bounds-find_lines-end-2
slice_bounds-find_lines-end-2 c = found_count _ _ _ _ _ _ c.requires _ _ _ c.in-Ok.ensures refl

pub find_lines-requires : goal.find_lines-requires
find_lines-requires c = lines_can _ _ _ _ _ _ c.requires _ _ _ c.in-Ok.ensures refl

pub returns : goal.returns
returns c = text_printed _ _ _ _ _ _ c.requires _ _ _ c.in-Ok.ensures refl _ _ c.find_lines.ensures
