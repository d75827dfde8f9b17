use Rattle.trie_outputs.proofs.OutputsLoop.{telling_root, telling_here, telling_next}
use Rattle.trie_outputs.proofs.output.Goals as goal
use Rattle.trie_outputs.proofs.output.Goals.{then-link-eq0-via-then-link-eq0, then-link-eq0-via-else-link-eq0+then-at-ne0}

pub returns-then-link-eq0 : goal.returns-then-link-eq0
returns-then-link-eq0 c =
    elim c.then-link-eq0.branch [
      | then-link-eq0-via-then-link-eq0 w ↦ rw w.if-link-eq0.true (telling_root c.requires c.at-link.ensures w.if-link-eq0.true)
      | then-link-eq0-via-else-link-eq0+then-at-ne0 w ↦ telling_here c.requires c.at-link.ensures w.if-link-eq0.false w.at.ensures w.if-at-ne0.true
    ]

pub returns : goal.returns
returns c = search telling_next
