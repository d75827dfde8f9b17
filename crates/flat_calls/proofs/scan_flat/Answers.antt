use native.Mathlib.Omega.{arith}
use Rattle.flat_calls.proofs.FlatLoop.{flat_start, flat_ready, flat-fits, flat-room, flat_next, flat_more, flat_all}
use Rattle.flat_calls.proofs.scan_flat.Goals as goal

pub loop-i-init : goal.loop-i-init
loop-i-init c = search flat_start

pub next_found-next-requires : goal.next_found-next-requires
next_found-next-requires c = search flat_ready

pub overflow_mul-at : goal.overflow_mul-at
overflow_mul-at c =
    record { fits = flat-fits c.loop-i.invariant c.loop-i-test.true }

pub bounds-found-at : goal.bounds-found-at
bounds-found-at c = search flat-room

pub bounds-found-at-in-loop-i : goal.bounds-found-at-in-loop-i
bounds-found-at-in-loop-i c =
    flat_next c.loop-i.invariant c.loop-i-test.true _

pub loop-i-preserved : goal.loop-i-preserved
loop-i-preserved c =
    flat_more c.loop-i.invariant c.loop-i-test.true c.next_found-next.ensures c.from.ensures

pub returns : goal.returns
returns c = search flat_all
