use Rattle.find_core.proofs.Begins.{prepared}
use Rattle.find_core.proofs.prepare.Goals as goal

pub returns : goal.returns
returns c =
    prepared c.build-nodes.ensures c.fill_heads.ensures c.fill_outputs.ensures
