use Rattle.std.proofs.lemmas.Result.{err_from_is_err_and}
use Rattle.tray_index.proofs.Asking.{found_none, found_rises, found_fits, start_bytes, found_good}
use Rattle.tray_index.proofs.beginning.Goals as goal

pub returns-in_err-span : goal.returns-in_err-span
returns-in_err-span c =
    let p = err_from_is_err_and c.from_residual.result c.from_residual.ensures.1 in
    rw (p.1, p.2) (found_none _ _ _ _ _ _ c.in_err-span.ensures.fault c.args.index.ref_ptr)

pub offset_bounds-index-span : goal.offset_bounds-index-span
offset_bounds-index-span c = record { fits = start_bytes _ _ _ _ _ c.in_ok-span.ensures.fault _ c.in_ok-span.ensures.span }

pub slice_bounds-result-count : goal.slice_bounds-result-count
slice_bounds-result-count c = found_rises _ _ _ _ _ c.in_ok-span.ensures.fault _ c.in_ok-span.ensures.span

pub slice_bounds-result-start : goal.slice_bounds-result-start
slice_bounds-result-start c = found_rises _ _ _ _ _ c.in_ok-span.ensures.fault _ c.in_ok-span.ensures.span

pub slice_bounds-result-end : goal.slice_bounds-result-end
slice_bounds-result-end c = found_fits _ _ _ _ _ c.in_ok-span.ensures.fault _ c.in_ok-span.ensures.span

pub returns : goal.returns
returns c = found_good _ _ _ _ _ c.in_ok-span.ensures.fault _ c.in_ok-span.ensures.span c.args.index.ref_ptr
