use Rattle.trie_links.proofs.Steps.{dropping_extends, dropping_ends, dropping_falls, dropping_more}
use borrow.Author.Rules.{rules}
use Rattle.trie_links.proofs.step.Goals as goal
use Rattle.trie_links.proofs.step.Goals.{then-u-ne0-via-then-u-ne0, then-u-ne0-via-else-u-ne0+then-state-eq0}

pub loop-n-smaller : goal.loop-n-smaller
loop-n-smaller c = search dropping_falls

pub loop-n-preserved : goal.loop-n-preserved
loop-n-preserved c = search dropping_more

pub returns-then-u-ne0 : goal.returns-then-u-ne0
returns-then-u-ne0 c =
    elim c.then-u-ne0.branch [
      | then-u-ne0-via-then-u-ne0 w ↦ search (rules, dropping_extends)
      | then-u-ne0-via-else-u-ne0+then-state-eq0 w ↦
          rw w.if-u-ne0.false (dropping_ends c.loop-n.invariant c.child-u.ensures w.if-u-ne0.false w.if-state-eq0.true)
    ]
