-- Invariant: no suffix of `a` that starts before place i is a prefix of `b`, so the overlap of `a` and `b` is that of the suffix from i on and `b`.
use mathlib.Core.Path.{◌≡◌}
use Prim.Native.Nat.{◌-◌, ◌≤◌}
use lib.ListN.{length, drop}
use Rattle.words.specs.Words.{overlap}
use Rattle.words.proofs.overlap.Given as goal

abbrev pub invariant-loop-i : goal.invariant-loop-i
invariant-loop-i l = (l.i ≤ length l.a) × (overlap l.a l.b ≡ overlap (drop l.i l.a) l.b)
