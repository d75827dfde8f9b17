use mathlib.Core.Path.{refl}
use Rattle.find_core.proofs.Checks.{silent_builds}
use Rattle.find_core.proofs.Begins.{begin_able, begin_loads, begin_few, count_fits, moves_fit, begin_refused, begin_started}
use Rattle.find_core.proofs.begin.Goals as goal

pub prepare-nodes-requires : goal.prepare-nodes-requires
prepare-nodes-requires c = search silent_builds

pub count_text-counts-requires : goal.count_text-counts-requires
count_text-counts-requires c = search begin_able

pub overflow_cast-result : goal.overflow_cast-result
overflow_cast-result c = record { fits = search count_fits }

pub returns-then-room-found : goal.returns-then-room-found
returns-then-room-found c = begin_refused c.requires c.prepare-nodes.ensures c.count_text-counts.ensures c.if-room-found.true refl

pub start-requires : goal.start-requires
start-requires c = (search begin_loads, search begin_few)

pub overflow_cast-result-2 : goal.overflow_cast-result-2
overflow_cast-result-2 c = record { fits = search moves_fit }

pub overflow_cast-result-3 : goal.overflow_cast-result-3
overflow_cast-result-3 c = record { fits = search count_fits }

pub returns : goal.returns
returns c = search begin_started
