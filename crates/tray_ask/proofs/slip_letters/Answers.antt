use Rattle.std.proofs.lemmas.Result.{err_from_is_err_and}
use Rattle.tray_ask.proofs.Requests.{stretch_refused, stretch_good, stretch_rises, stretch_fits}
use Rattle.tray_ask.proofs.slip_letters.Goals as goal

pub returns-in_err-span : goal.returns-in_err-span
returns-in_err-span c =
    let p = err_from_is_err_and c.from_residual.result c.from_residual.ensures.1 in
    rw (p.1, p.2) (stretch_refused _ _ _ _ c.in_err-span.ensures.fault c.args.letters.ref_ptr)

pub slice_bounds-result-count : goal.slice_bounds-result-count
slice_bounds-result-count c = stretch_rises _ _ _ c.in_ok-span.ensures.fault _ c.in_ok-span.ensures.span

pub slice_bounds-result-start : goal.slice_bounds-result-start
slice_bounds-result-start c = stretch_rises _ _ _ c.in_ok-span.ensures.fault _ c.in_ok-span.ensures.span

pub slice_bounds-result-end : goal.slice_bounds-result-end
slice_bounds-result-end c = stretch_fits _ _ _ c.in_ok-span.ensures.fault _ c.in_ok-span.ensures.span

pub returns : goal.returns
returns c = stretch_good _ _ _ c.in_ok-span.ensures.fault _ c.in_ok-span.ensures.span c.args.letters.ref_ptr
