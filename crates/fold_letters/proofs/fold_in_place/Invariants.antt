-- Invariant: the letters before b are folded, and the others as they were.
use mathlib.Core.Path.{◌≡◌}
use mathlib.Core.List.{map}
use lib.ListN.{take}
use Rattle.words.specs.Lists.{over}
use Rattle.fold_rule.specs.Folding.{fold}
use Rattle.fold_letters.proofs.fold_in_place.Given as goal

abbrev pub invariant-loop-b : goal.invariant-loop-b
invariant-loop-b l = l.text ≡ over (map fold (take l.b-index l.initial.text)) l.initial.text
