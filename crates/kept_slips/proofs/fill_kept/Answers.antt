use mathlib.Core.Path.{refl}
use Rattle.trie_heads.proofs.Keeping.{kept_refl, kept_trans, kept_put}
use Rattle.kept_slips.proofs.KeptLoop.{sifting_start, sifting_judged, sifting_aside, sifting_kept, sifting_all}
use borrow.Author.Rules.{rules}
use Rattle.kept_slips.proofs.fill_kept.Goals as goal

pub loop-j-init : goal.loop-j-init
loop-j-init c = (search sifting_start, search kept_refl)

pub is_aside-requires : goal.is_aside-requires
is_aside-requires c = search sifting_judged

pub loop-j-preserved-then-is_aside : goal.loop-j-preserved-then-is_aside
loop-j-preserved-then-is_aside c = (
  sifting_aside c.loop-j.invariant.0 c.loop-j-test.true c.at-i.ensures _ c.is_aside.ensures c.if-is_aside.true refl,
  search rules,
)

pub loop-j-preserved : goal.loop-j-preserved
loop-j-preserved c = (search sifting_kept, search (kept_trans, kept_put))

pub returns : goal.returns
returns c = search sifting_all
