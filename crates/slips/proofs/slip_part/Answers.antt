use Rattle.slips.proofs.Stretches.{part_rises, part_fits, part_is}
use Rattle.slips.proofs.slip_part.Goals as goal

pub slice_bounds-result-count : goal.slice_bounds-result-count
slice_bounds-result-count c = search part_rises

pub slice_bounds-result-start : goal.slice_bounds-result-start
slice_bounds-result-start c = search part_rises

pub slice_bounds-result-end : goal.slice_bounds-result-end
slice_bounds-result-end c = search part_fits

pub returns : goal.returns
returns c = search part_is
