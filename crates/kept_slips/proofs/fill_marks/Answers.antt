use mathlib.Core.Path.{refl}
use Prim.Native.Nat.{◌+◌}
use native.Mathlib.Omega.{arith}
use Rattle.trie_heads.proofs.Keeping.{kept_refl, kept_trans, kept_put}
use Rattle.kept_slips.proofs.MarkLoop.{marking_start, marking_more, marking_all}
use Rattle.kept_slips.proofs.fill_marks.Goals as goal

pub loop-v-init : goal.loop-v-init
loop-v-init c = (search marking_start, search kept_refl)

pub loop-v-preserved : goal.loop-v-preserved
loop-v-preserved c = (search marking_more, search (kept_trans, kept_put))

pub returns-2 : goal.returns-2
returns-2 c =
    marking_all c.clear.ensures (kept_trans c.loop-v.invariant.1 (kept_put c.put.ensures))
    (marking_more c.loop-v.invariant.0 c.loop-v-test.true c.at-u.ensures c.put.ensures (c.loop-v.v + 1) refl)
    (omega arith)
