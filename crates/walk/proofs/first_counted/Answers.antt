use Rattle.walk.proofs.FirstNode.{first_counts, first-skips, own_inside}
use Rattle.walk.proofs.first_counted.Goals as goal

pub slice_bounds-not_stops-end : goal.slice_bounds-not_stops-end
slice_bounds-not_stops-end c = search own_inside

pub returns-then-not_stops : goal.returns-then-not_stops
returns-then-not_stops c = search first_counts

pub returns-else-not_stops : goal.returns-else-not_stops
returns-else-not_stops c = search first-skips
