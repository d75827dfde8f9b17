use Rattle.trie_heads.proofs.Keeping.{kept_refl, kept_trans}
use Rattle.trie_heads.proofs.HeadLoop.{heading_start, heading_among}
use Rattle.trie_heads.proofs.HeadLoop.{heading_can, heading_more, heading_kept, heading_all}
use Rattle.trie_heads.proofs.fill_heads.Goals as goal

pub loop-j-init : goal.loop-j-init
loop-j-init c = (search heading_start, search kept_refl)

pub node_of-v-requires : goal.node_of-v-requires
node_of-v-requires c =
    heading_among c.loop-j.invariant.0 c.loop-j-test.true c.at-i.ensures

pub push-requires : goal.push-requires
push-requires c = search heading_can

pub loop-j-preserved : goal.loop-j-preserved
loop-j-preserved c = (search heading_more, search (kept_trans, heading_kept))

pub returns : goal.returns
returns c = search heading_all
