use Rattle.slips.proofs.Counted.{overlap_inside, overlap-counted}
use borrow.Author.Rules.{rules}
use Rattle.slips.proofs.counted_overlap.Goals as goal

pub slice_bounds-not_stops-end : goal.slice_bounds-not_stops-end
slice_bounds-not_stops-end c = search overlap_inside

pub returns : goal.returns
returns c = search (rules, overlap-counted)
