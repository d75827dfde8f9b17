use Rattle.shortest_core.proofs.OrderSteps.{copy_can, kept_copied}
use Rattle.shortest_core.proofs.kept_numbers.Goals as goal

pub copy_cells-requires : goal.copy_cells-requires
copy_cells-requires c = search copy_can

pub returns : goal.returns
returns c = search kept_copied
