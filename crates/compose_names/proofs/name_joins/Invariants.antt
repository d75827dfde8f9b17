-- Invariant: the table NAMED holds the first i staged joins, their slips by their numbers in `slips`, and nothing else has changed.
use Rattle.words.specs.Lists.{each, up_from}
use Rattle.layout.specs.Layout.{NAMED}
use Rattle.compose_names.specs.Steps.Naming.{RowPut, named_in}
use Rattle.compose_names.proofs.name_joins.Given as goal

abbrev pub invariant-loop-i : goal.invariant-loop-i
invariant-loop-i l = RowPut NAMED 0 (each (named_in l.initial.work l.slips) (up_from 0 l.i)) l.initial.work l.work
