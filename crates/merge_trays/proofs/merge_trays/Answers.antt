use Rattle.std.proofs.lemmas.Result.{err_from_is_err_and}
use Rattle.merge_trays.proofs.InputRows.{lent_room}
use Rattle.merge_trays.proofs.MergeSteps.{merge_lent, merge_inputs, merge_sizes}
use Rattle.merge_trays.proofs.merge_trays.Goals as goal

pub returns-in_err-check_lent : goal.returns-in_err-check_lent
returns-in_err-check_lent c =
    let p = err_from_is_err_and c.from_residual.result c.from_residual.ensures.1 in
    rw (p.1, p.2) (merge_lent _ _ _ _ _ _ _ _ _ _ c.in_err-check_lent.ensures)

pub returns-in_err-first : goal.returns-in_err-first
returns-in_err-first c =
    let e = c.from_residual-in_err-first in
    let p = err_from_is_err_and e.result e.ensures.1 in
    rw (p.1, p.2) (merge_inputs _ _ _ _ _ _ _ _ _ c.in_ok-check_lent.ensures _ c.in_err-first.ensures.fault)

pub merge_sided-requires : goal.merge_sided-requires
merge_sided-requires c = lent_room _ _ _ c.in_ok-check_lent.ensures

pub returns : goal.returns
returns c =
    merge_sizes _ _ _ _ _ _ _ _ _ c.in_ok-check_lent.ensures c.in_ok-first.ensures.fault c.in_ok-first.first c.in_ok-first.second
    c.in_ok-first.ensures.sided _ _ _ _ c.merge_sided.ensures
