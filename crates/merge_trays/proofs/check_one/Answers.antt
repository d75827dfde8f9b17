use mathlib.Core.Path.{◌≡◌}
use mathlib.Core.List.{List}
use Prim.Native.Nat.{ℕ}
use lib.ListN.{length}
use Rattle.std.proofs.lemmas.Result.{err_from_is_err_and}
use Rattle.trays.proofs.Told.{at_tray}
use Rattle.merge_trays.proofs.InputRows.{one_is, one_many}
use Rattle.merge_trays.proofs.check_one.Goals as goal

pub returns-in_err-tray-clause-fault : goal.returns-in_err-tray-clause-fault
returns-in_err-tray-clause-fault c =
    let p = err_from_is_err_and c.from_residual.result c.from_residual.ensures.1 in
    rw (p.1, p.2) (one_is _ _ _ _ c.in_err-tray.ensures.fault)

pub invariant_of-result : goal.invariant_of-result
invariant_of-result c =
    let P : List ℕ → List ℕ → Type 0 = λ s es. length c.args.sides.now ≡ length es in
    record { as_many = at_tray P c.args.letters c.args.ends c.in_ok-tray.tray c.in_ok-tray.ensures.tray (one_many _ _ _ c.in_ok-tray.ensures.fault) }

pub returns-clause-fault : goal.returns-clause-fault
returns-clause-fault c = one_is _ _ _ _ c.in_ok-tray.ensures.fault
