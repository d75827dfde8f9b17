use mathlib.Core.Path.{refl}
use Rattle.std.proofs.lemmas.Result.{err_from_is_err_and}
use Rattle.compose_tray.proofs.Composing.{joins_can, places_can, composing_says}
use Rattle.compose_tray.proofs.compose_tray.Goals as goal

pub returns-in_err-counts : goal.returns-in_err-counts
returns-in_err-counts c =
    let p = err_from_is_err_and c.from_residual.result c.from_residual.ensures.1 in
    rw (p.1, p.2) (composing_says _ _ _ _ _ _ _ _ _ _ _ c.in_err-counts.ensures _ _ refl refl)

pub store_joins-requires : goal.store_joins-requires
store_joins-requires c = joins_can _ _ _ _ _ _ _ _ _ _ _ c.in_ok-counts.ensures

pub store_places-requires : goal.store_places-requires
store_places-requires c = places_can _ _ _ _ _ _ _ _ _ _ _ c.in_ok-counts.ensures

pub returns : goal.returns
returns c = composing_says _ _ _ _ _ _ _ _ _ _ _ c.in_ok-counts.ensures _ _ c.store_joins.ensures c.store_places.ensures
