use Rattle.kept_lists.proofs.AffixLoop.{listing_start}
use Rattle.kept_lists.proofs.fill_kind.Goals as goal

pub loop-j-init : goal.loop-j-init
loop-j-init g c = listing_start c.requires.1.0 (rw c.requires.1.1.0 at c.clear.ensures)
