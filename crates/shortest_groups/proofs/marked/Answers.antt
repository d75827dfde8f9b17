use native.Mathlib.Omega.{arith}
use Rattle.trays.specs.Limits.{max_shortest}
use Rattle.shortest_groups.proofs.GroupMarks.{mark-below}
use borrow.Author.Rules.{rules}
use Rattle.shortest_groups.proofs.marked.Goals as goal

pub returns : goal.returns
returns c =
    let (g, a, free) = c.requires in
    (search rules, omega (arith, mark-below max_shortest _ _ g a free))
