-- Invariant: v is the number that the digits before d write; it is below 10 ^ d-index, and the digits from d on continue it to the number of them all.
use mathlib.Core.Path.{◌≡◌}
use Prim.Native.Nat.{◌^◌, ◌<◌}
use lib.ListN.{drop}
use Rattle.file_rule.specs.Lines.{number}
use Rattle.file_line.proofs.number.Given as goal

abbrev pub invariant-loop-d : goal.invariant-loop-d
invariant-loop-d l = (l.v < 10 ^ l.d-index) × (number 0 l.digits ≡ number l.v (drop l.d-index l.digits))
