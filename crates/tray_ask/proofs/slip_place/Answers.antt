use Rattle.std.proofs.lemmas.Result.{err_from_is_err_and}
use Rattle.tray_ask.proofs.Requests.{place_refused, place_found, start_small, end_small}
use Rattle.tray_ask.proofs.slip_place.Goals as goal

pub returns-in_err-place : goal.returns-in_err-place
returns-in_err-place c =
    let p = err_from_is_err_and c.from_residual.result c.from_residual.ensures.1 in
    rw (p.1, p.2) (place_refused _ _ _ _ c.in_err-place.ensures.fault)

pub overflow_cast-result : goal.overflow_cast-result
overflow_cast-result c = record { fits = start_small _ _ _ c.in_ok-place.ensures.fault _ c.in_ok-place.ensures.span }

pub overflow_cast-result-2 : goal.overflow_cast-result-2
overflow_cast-result-2 c = record { fits = end_small _ _ _ c.in_ok-place.ensures.fault _ c.in_ok-place.ensures.span }

pub returns : goal.returns
returns c = place_found _ _ _ c.in_ok-place.ensures.fault _ c.in_ok-place.ensures.span
