use Rattle.std.proofs.lemmas.Result.{err_from_is_err_and}
use Rattle.tray_index.proofs.Asking.{place_none, place_good, start_small, end_small}
use Rattle.tray_index.proofs.beginning_place.Goals as goal

pub returns-in_err-place : goal.returns-in_err-place
returns-in_err-place c =
    let p = err_from_is_err_and c.from_residual.result c.from_residual.ensures.1 in
    rw (p.1, p.2) (place_none _ _ _ _ _ _ c.in_err-place.ensures.fault)

pub overflow_cast-result : goal.overflow_cast-result
overflow_cast-result c = record { fits = start_small _ _ _ _ _ c.in_ok-place.ensures.fault _ c.in_ok-place.ensures.span }

pub overflow_cast-result-2 : goal.overflow_cast-result-2
overflow_cast-result-2 c = record { fits = end_small _ _ _ _ _ c.in_ok-place.ensures.fault _ c.in_ok-place.ensures.span }

pub returns : goal.returns
returns c = place_good _ _ _ _ _ c.in_ok-place.ensures.fault _ c.in_ok-place.ensures.span
