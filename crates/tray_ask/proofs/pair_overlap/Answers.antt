use Rattle.std.proofs.lemmas.Result.{err_from_is_err_and}
use mathlib.Core.List.{List}
use Prim.Native.Nat.{ℕ}
use native.Mathlib.Omega.{arith}
use Rattle.trays.proofs.Told.{at_tray, of_tray}
use Rattle.slips.specs.Pairs.{TwoSlips, Overlap}
use Rattle.tray_ask.proofs.Requests.{pair_refused, pair_sides, pair_slips, pair_found, pair_apart}
use Rattle.tray_ask.proofs.pair_overlap.Goals as goal

pub returns-in_err-tray : goal.returns-in_err-tray
returns-in_err-tray c =
    let p = err_from_is_err_and c.from_residual.result c.from_residual.ensures.1 in
    rw (p.1, p.2) (pair_refused _ _ _ _ _ _ _ c.in_err-tray.ensures.fault)

pub same_side-requires : goal.same_side-requires
same_side-requires c = pair_sides _ _ _ _ _ _ c.in_ok-tray.ensures.fault

pub slip_overlap-shared-requires : goal.slip_overlap-shared-requires
slip_overlap-shared-requires c =
    let P : List ℕ → List ℕ → Type 0 = λ s es. TwoSlips s es c.args.left c.args.right in
    at_tray P c.args.letters c.args.ends c.in_ok-tray.tray c.in_ok-tray.ensures.tray (pair_slips _ _ _ _ _ _ c.in_ok-tray.ensures.fault)

pub overflow_cast-result : goal.overflow_cast-result
overflow_cast-result c = record { fits = omega (arith, c.slip_overlap-shared.ensures.short) }

pub returns-then-same_side : goal.returns-then-same_side
returns-then-same_side c =
    let P : List ℕ → List ℕ → Type 0 = λ s es. Overlap c.args.least s es c.args.left c.args.right c.slip_overlap-shared.result in
    pair_found _ _ _ _ _ _ c.in_ok-tray.ensures.fault _
    (of_tray P c.args.letters c.args.ends c.in_ok-tray.tray c.in_ok-tray.ensures.tray c.slip_overlap-shared.ensures) _ c.same_side.ensures c.if-same_side.true

pub returns : goal.returns
returns c = pair_apart _ _ _ _ _ _ c.in_ok-tray.ensures.fault _ c.same_side.ensures c.if-same_side.false
