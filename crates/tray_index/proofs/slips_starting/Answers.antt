use Rattle.tray_index.proofs.Asking.{rank_lower, rank_upper, span_is}
use Rattle.tray_index.proofs.slips_starting.Goals as goal

pub rank-start-requires : goal.rank-start-requires
rank-start-requires c = search (rank_lower, rank_upper)

pub rank-end-requires : goal.rank-end-requires
rank-end-requires c = search (rank_lower, rank_upper)

pub returns : goal.returns
returns c = search span_is
