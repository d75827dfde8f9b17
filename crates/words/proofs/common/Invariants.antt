-- Invariant: the first n letters of `a` and `b` agree, so their common prefix is n letters longer than that of what is left of both.
use mathlib.Core.Path.{◌≡◌}
use Prim.Native.Nat.{◌+◌, ◌-◌, ◌≤◌}
use lib.ListN.{length, drop}
use Rattle.words.specs.Words.{common}
use Rattle.words.proofs.common.Given as goal

abbrev pub invariant-loop-n : goal.invariant-loop-n
invariant-loop-n l = (l.n ≤ length l.a) × (common l.a l.b ≡ l.n + common (drop l.n l.a) (drop l.n l.b))
