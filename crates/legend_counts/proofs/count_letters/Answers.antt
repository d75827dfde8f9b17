use Rattle.legend_counts.proofs.CountSteps.{kept_asks, saved-fits, counts_are}
use Rattle.legend_counts.proofs.count_letters.Goals as goal

pub kept_letters-all-requires : goal.kept_letters-all-requires
kept_letters-all-requires c = search kept_asks

pub overflow_sub-result : goal.overflow_sub-result
overflow_sub-result c = search saved-fits

pub returns : goal.returns
returns c = search counts_are
