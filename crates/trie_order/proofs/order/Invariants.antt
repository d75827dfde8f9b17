-- Invariant: the first n letters of `a` and `b` agree, so their order is that of what is left of both.
use mathlib.Core.Path.{◌≡◌}
use Prim.Native.Nat.{◌≤◌}
use lib.ListN.{length, drop}
use Rattle.std.specs.Cmp.Lexicographic.{slice_cmp}
use Rattle.std.specs.Ordering.{nat_cmp}
use Rattle.trie_order.proofs.order.Given as goal

abbrev pub invariant-loop-n : goal.invariant-loop-n
invariant-loop-n l = (l.n ≤ length l.a) × (l.n ≤ length l.b) × (slice_cmp nat_cmp l.a l.b ≡ slice_cmp nat_cmp (drop l.n l.a) (drop l.n l.b))
