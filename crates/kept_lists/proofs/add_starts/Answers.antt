use Rattle.kept_lists.proofs.StartLoop.{beginning_start, beginning_place, beginning_can, beginning_more, beginning_all}
use Rattle.kept_lists.proofs.AffixLoop.{added-some, added-most}
use Rattle.kept_lists.proofs.add_starts.Goals as goal

pub slip_span-span-requires : goal.slip_span-span-requires
slip_span-span-requires c = (search added-some, search added-most)

pub loop-p-init : goal.loop-p-init
loop-p-init c = search beginning_start

pub at-u-requires : goal.at-u-requires
at-u-requires c = search beginning_place

pub push-requires : goal.push-requires
push-requires c = search beginning_can

pub loop-p-preserved : goal.loop-p-preserved
loop-p-preserved c = search beginning_more

pub returns : goal.returns
returns c = search beginning_all
