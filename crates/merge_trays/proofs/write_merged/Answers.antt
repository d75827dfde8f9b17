use mathlib.Core.Path.{refl}
use Rattle.merge_trays.proofs.MergeSteps.{merged-written}
use Rattle.merge_trays.proofs.write_merged.Goals as goal

pub returns : goal.returns
returns c =
    merged-written _ _ _ _ _ c.args.first.accepted _ _ c.requires _ _ _ c.copy-here.ensures.copied c.copy-here.ensures.count
    c.copy_cells.ensures _ _ _ c.write_slips.ensures _ _ refl refl
