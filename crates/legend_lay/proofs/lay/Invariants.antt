-- Invariant: the first i pieces are laid, and the next letters go from `here` on.
use Rattle.legend_lay.proofs.LayStep.{Laying}
use Rattle.legend_lay.proofs.lay.Given as goal

abbrev pub invariant-loop-i : goal.invariant-loop-i
invariant-loop-i l = Laying l.tray.letters.now l.tray.ends.now l.pieces l.k l.i l.initial.legend l.here l.legend
