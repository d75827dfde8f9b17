use Rattle.sheet_of_tray.proofs.ShownSheets.{shown_some, shown_other, shown_empty}
use Rattle.sheet_of_tray.proofs.is_shown.Goals as goal

pub returns-then-own-ne0 : goal.returns-then-own-ne0
returns-then-own-ne0 c = search shown_some

pub returns-then-side-ne-BLANK_SIDE : goal.returns-then-side-ne-BLANK_SIDE
returns-then-side-ne-BLANK_SIDE c = search shown_other

pub returns : goal.returns
returns c = search shown_empty
