-- Invariant: the first i marks are the numbers from 1 to i.
use Rattle.walk_offer.proofs.MarkLaws.{Owning}
use Rattle.walk_offer.proofs.own_marks.Given as goal

abbrev pub invariant-loop-i : goal.invariant-loop-i
invariant-loop-i l = Owning l.i l.marks
