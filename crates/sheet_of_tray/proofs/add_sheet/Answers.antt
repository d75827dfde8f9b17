use Rattle.sheet_of_tray.proofs.ShownSheets.{sides_few, sheet_none, sheet_fits, sheet_some}
use mathlib.Core.Path.{refl}
use native.Mathlib.Omega.{arith}
use Rattle.sheet_of_tray.proofs.add_sheet.Goals as goal

pub is_shown-shown-requires : goal.is_shown-shown-requires
is_shown-shown-requires c = search sides_few

pub overflow_add-result : goal.overflow_add-result
overflow_add-result c =
    let few = sheet_fits _ _ _ _ _ _ c.requires.side_room _ _ c.requires.sheet_room_in_bounds _ c.is_shown-shown.ensures _ _ _ _ _ refl c.side_sheet-n.ensures in
    omega arith

pub returns-then-shown : goal.returns-then-shown
returns-then-shown c = search sheet_some

pub returns : goal.returns
returns c = search sheet_none
