-- Invariant: the pieces of the first m slips are written, and their legend has so many letters as are needed so far.
use Rattle.legend_order.proofs.OrderLoop.{Arranging}
use Rattle.legend_order.proofs.order_pieces.Given as goal

abbrev pub invariant-loop-m : goal.invariant-loop-m
invariant-loop-m l = Arranging l.least l.tray.letters.now l.tray.ends.now l.order l.k l.m l.initial.pieces l.pieces l.need
