-- Invariant: the first i letters of `from` stand, folded, at the start of `to`, and the rest of `to` is as it was.
use mathlib.Core.Path.{◌≡◌}
use mathlib.Core.List.{map}
use lib.ListN.{take}
use Rattle.fold_rule.specs.Folding.{fold}
use Rattle.words.specs.Lists.{over}
use Rattle.fold_letters.proofs.file_letters.Given as goal

abbrev pub invariant-loop-i : goal.invariant-loop-i
invariant-loop-i l = l.to ≡ over (map fold (take l.i l.from)) l.initial.to
