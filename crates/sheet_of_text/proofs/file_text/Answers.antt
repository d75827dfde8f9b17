use Rattle.sheet_of_text.proofs.Trims.{filed_text, take_count}
use Rattle.sheet_of_text.proofs.file_text.Goals as goal

pub slice_bounds-fold_in_place-end-2 : goal.slice_bounds-fold_in_place-end-2
slice_bounds-fold_in_place-end-2 c = search take_count

pub returns : goal.returns
returns c = search filed_text
