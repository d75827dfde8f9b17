-- Invariant: the table RECORDS holds the records of the first i slips, and nothing else has changed.
use Rattle.words.specs.Lists.{each, up_from}
use Rattle.layout.specs.Layout.{RECORDS}
use Rattle.compose_names.specs.Steps.Naming.{RowPut, record_in}
use Rattle.compose_names.proofs.make_records.Given as goal

abbrev pub invariant-loop-i : goal.invariant-loop-i
invariant-loop-i l = RowPut RECORDS 0 (each (record_in l.initial.work l.slips l.side) (up_from 0 l.i)) l.initial.work l.work
