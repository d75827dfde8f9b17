use mathlib.Core.Path.{sym, ◌∙◌}
use mathlib.Core.Bool.{false≢true}
use Rattle.trie_order.proofs.Comparing.{below-less, below-lower, below-upper, below-number, below-begun, below_none}
use borrow.Author.Rules.{rules}
use Rattle.trie_order.proofs.below.Goals as goal
use Rattle.trie_order.proofs.below.Goals.{in-Upper-matches, in_default}

pub returns-in-Less : goal.returns-in-Less
returns-in-Less c = search (rules, below-less, c.in-Less.ensures)

pub returns-in-Lower : goal.returns-in-Lower
returns-in-Lower c = search (rules, below-lower, c.in-Equal.ensures)

pub returns-in-Upper : goal.returns-in-Upper
returns-in-Upper c = search (rules, below-upper, c.in-Equal.ensures)

pub returns-in-Number : goal.returns-in-Number
returns-in-Number c = search (rules, below-number, c.in-Equal.ensures)

pub returns-then-matches : goal.returns-then-matches
returns-then-matches c =
    elim c.match-matches.branch [
      | in-Upper-matches w ↦ below-begun _ _ _ _ _ c.order.ensures c.in-Greater.is w.in-Upper-matches.is _ c.starts_with.ensures.value
      | in_default w ↦ absurd (false≢true (sym w.matches-is ∙ c.if-matches.true))
    ]

pub returns-else-matches : goal.returns-else-matches
returns-else-matches c =
    elim c.match-matches.branch [
      | in-Upper-matches w ↦ absurd (false≢true (sym c.if-matches.false ∙ w.matches-is))
      | in_default w ↦ rw w.matches-is (below_none _ _ _ _ _ c.order.ensures c.in-Greater.is w.in_default.not-Upper)
    ]
