use Rattle.slips.proofs.Counted.{two_slips}
use Rattle.slips.proofs.slip_overlap.Goals as goal

pub returns : goal.returns
returns c = search two_slips
