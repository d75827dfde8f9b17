use Rattle.find_core.proofs.Telling.{ready_count, ready_loads, ready_ahead, ready_reports, passed_keeps, reached_end, reached_slip, ready_told}
use Rattle.find_core.proofs.next_found.Goals as goal

pub at-nodes-requires : goal.at-nodes-requires
at-nodes-requires c = search ready_count

pub load-from-requires : goal.load-from-requires
load-from-requires c = search ready_loads

pub advance-here-requires : goal.advance-here-requires
advance-here-requires c = search ready_ahead

pub pass-next-requires : goal.pass-next-requires
pass-next-requires c = search ready_reports

pub keep-requires : goal.keep-requires
keep-requires c = passed_keeps c.pass-next.ensures

pub overflow_cast-result : goal.overflow_cast-result
overflow_cast-result c =
    record { fits = reached_end c.advance-here.ensures }

pub overflow_cast-result-2 : goal.overflow_cast-result-2
overflow_cast-result-2 c =
    record { fits = reached_slip c.advance-here.ensures }

pub returns : goal.returns
returns c =
    ready_told c.requires c.at-nodes.ensures c.load-from.ensures c.advance-here.ensures c.pass-next.ensures
    c.keep.ensures
