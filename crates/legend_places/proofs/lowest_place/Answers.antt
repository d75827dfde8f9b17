use Rattle.legend_places.proofs.LowestPlace.{trial_other, trial_agrees, trial_differs}
use Rattle.legend_places.proofs.LowestPlace.{short_place, short_count, whole-place, whole_count}
use borrow.Author.Rules.{rules}
use Rattle.legend_places.proofs.lowest_place.Goals as goal
use Rattle.legend_places.proofs.lowest_place.Goals.{else-t-end+else-t-end-2+else-loop-k-test, then-t-end}

pub places-preserved-then-t-end-2 : goal.places-preserved-then-t-end-2
places-preserved-then-t-end-2 c = search trial_other

pub places-preserved : goal.places-preserved
places-preserved c = search trial_differs

pub loop-k-preserved : goal.loop-k-preserved
loop-k-preserved c = search (rules, trial_agrees)

pub returns : goal.returns
returns c = elim c.if-t-end.branch [
  | then-t-end w ↦ (search short_place, search short_count)
  | else-t-end+else-t-end-2+else-loop-k-test w ↦ (search whole-place, search whole_count)
]
