use Rattle.std.proofs.Common.{ℕ, List, refl}
use Rattle.std.proofs.lemmas.Result.{err_from_is_err_and}
use Rattle.trays.proofs.Told.{of_tray}
use Rattle.flat_calls.specs.Steps.Occurrences.{NumbersStored}
use Rattle.find_core.proofs.Answering.{core_before, checked_clear, checked_says}
use Rattle.flat_calls.proofs.FlatAnswers.{flat_says}
use Rattle.flat_calls.proofs.find_flat.Goals as goal

pub returns-in_err-tray : goal.returns-in_err-tray
returns-in_err-tray c =
    let p = err_from_is_err_and c.from_residual.result c.from_residual.ensures.1 in
    rw (p.1, p.2)
    (flat_says (core_before _ _ _ _ _ _ c.in_err-tray.ensures.fault) (record { found_are = refl; left = record { same = refl; none = λ z. refl } }))

pub begin-requires : goal.begin-requires
begin-requires c = checked_clear _ _ c.in_ok-tray.tray c.in_ok-tray.ensures.tray _ _ c.in_ok-tray.ensures.fault

pub returns-in_err-counts : goal.returns-in_err-counts
returns-in_err-counts c =
    let p = err_from_is_err_and c.from_residual-in_err-counts.result c.from_residual-in_err-counts.ensures.1 in
    let says = checked_says _ _ c.in_ok-tray.tray c.in_ok-tray.ensures.tray _ _ _ _ _ c.in_err-counts.ensures in
    rw (p.1, p.2) (flat_says says (record { found_are = refl; left = record { same = refl; none = λ z. refl } }))

pub returns : goal.returns
returns c =
    let n : ℕ = c.in_ok-counts.counts.count in
    let says = checked_says _ _ c.in_ok-tray.tray c.in_ok-tray.ensures.tray _ _ _ _ _ c.in_ok-counts.ensures in
    let P : List ℕ → List ℕ → Type 0 = λ s es.
    NumbersStored s es c.args.text.now n c.begin.new.work c.scan_flat.new.work c.args.found.now c.scan_flat.new.found in
    flat_says says (of_tray P c.args.letters c.args.ends c.in_ok-tray.tray c.in_ok-tray.ensures.tray c.scan_flat.ensures)
