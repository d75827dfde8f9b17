use Rattle.compose_core.proofs.TopSteps.{finish_can, finished_all}
use borrow.Author.Rules.{rules}
use Rattle.compose_core.proofs.compose_accepted.Goals as goal

pub finish-requires : goal.finish-requires
finish-requires c =
    finish_can _ _ _ c.requires.buildable _ _ c.build-nodes.ensures _ _ c.fill_lists-k.ensures _ _ _ _ c.walk-joins.ensures

pub returns : goal.returns
returns c =
    finished_all _ _ _ c.requires.buildable _ _ c.build-nodes.ensures _ _ c.fill_lists-k.ensures _ _ _ _
    c.walk-joins.ensures _ _ _ _ _ _ c.finish.ensures c.args.settings (search rules)
