use Rattle.kept_slips.proofs.Told.{told}
use Rattle.kept_slips.proofs.tell_kept.Goals as goal

pub returns : goal.returns
returns c =
    told c.fill_heads.ensures c.fill_marks.ensures c.fill_kept.ensures
