use mathlib.Core.Path.{refl}
use Rattle.std.proofs.lemmas.Result.{err_from_is_err_and}
use Rattle.flat_calls.proofs.ComposingSteps.{none_over, joins_can, places_can, flat_says}
use Rattle.flat_calls.proofs.compose_flat.Goals as goal

pub returns-in_err-counts : goal.returns-in_err-counts
returns-in_err-counts c =
    let p = err_from_is_err_and c.from_residual.result c.from_residual.ensures.1 in
    rw (p.1, p.2) (flat_says _ _ _ _ _ _ _ _ _ _ _ c.in_err-counts.ensures _ _ _ _ 0 0 refl refl refl refl (none_over _ _ _) (none_over _ _ _))

pub copy_cells-requires : goal.copy_cells-requires
copy_cells-requires c = joins_can _ _ _ _ _ _ _ _ _ _ _ c.in_ok-counts.ensures _ _ refl refl

pub copy_cells-requires-2 : goal.copy_cells-requires-2
copy_cells-requires-2 c = places_can _ _ _ _ _ _ _ _ _ _ _ c.in_ok-counts.ensures _ _ _ _ refl refl refl refl

pub returns : goal.returns
returns c =
    flat_says _ _ _ _ _ _ _ _ _ _ _ c.in_ok-counts.ensures _ _ _ _ _ _ refl refl refl refl
    c.copy_cells.ensures c.copy_cells-2.ensures
