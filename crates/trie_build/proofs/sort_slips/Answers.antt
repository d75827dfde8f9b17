use Rattle.trie_build.proofs.BuildSteps.{members_asks, order_asks, sort_asks, common_asks, slips_sorted}
use Rattle.trie_build.proofs.sort_slips.Goals as goal

pub fill_members-requires : goal.fill_members-requires
fill_members-requires c =
    members_asks _ _ _ c.requires

pub fill_members-requires-2 : goal.fill_members-requires-2
fill_members-requires-2 c =
    order_asks _ _ _ c.requires _ c.fill_members.ensures

pub sort_table-requires : goal.sort_table-requires
sort_table-requires c =
    sort_asks _ _ _ c.requires _ c.fill_members.ensures _ c.fill_members-2.ensures

pub fill_common-requires : goal.fill_common-requires
fill_common-requires c =
    common_asks _ _ _ c.requires _ c.fill_members.ensures _ c.fill_members-2.ensures _ c.sort_table.ensures

pub returns : goal.returns
returns c = search slips_sorted
