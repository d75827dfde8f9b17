use Rattle.std.proofs.Common.{◌≡◌, ℕ, List, refl}
use Rattle.std.proofs.lemmas.Result.{err_from_is_err_and}
use Rattle.trays.proofs.Told.{of_tray}
use Rattle.words.specs.Lists.{over}
use Rattle.store_loops.specs.Firsts.{firsts}
use Rattle.find_core.specs.Steps.Searching.{found_at, Left}
use Rattle.find_core.proofs.Answering.{core_before, checked_clear, checked_says}
use Rattle.find_slips.proofs.RecordAnswers.{find_says}
use Rattle.find_slips.proofs.find_slips.Goals as goal

pub returns-in_err-tray : goal.returns-in_err-tray
returns-in_err-tray c =
    let p = err_from_is_err_and c.from_residual.result c.from_residual.ensures.1 in
    rw (p.1, p.2) (find_says (core_before _ _ _ _ _ _ c.in_err-tray.ensures.fault) refl (record { same = refl; none = λ z. refl }))

pub begin-requires : goal.begin-requires
begin-requires c = checked_clear _ _ c.in_ok-tray.tray c.in_ok-tray.ensures.tray _ _ c.in_ok-tray.ensures.fault

pub returns-in_err-counts : goal.returns-in_err-counts
returns-in_err-counts c =
    let p = err_from_is_err_and c.from_residual-in_err-counts.result c.from_residual-in_err-counts.ensures.1 in
    let says = checked_says _ _ c.in_ok-tray.tray c.in_ok-tray.ensures.tray _ _ _ _ _ c.in_err-counts.ensures in
    rw (p.1, p.2) (find_says says refl (record { same = refl; none = λ z. refl }))

pub returns : goal.returns
returns c =
    let n : ℕ = c.in_ok-counts.counts.count in
    let says = checked_says _ _ c.in_ok-tray.tray c.in_ok-tray.ensures.tray _ _ _ _ _ c.in_ok-counts.ensures in
    let P : List ℕ → List ℕ → Type 0 = λ s es.
    (c.scan_found.new.found ≡ over (firsts (found_at s es c.args.text.now) n) c.args.found.now)
    × Left s es c.args.text.now n c.begin.new.work c.scan_found.new.work in
    let stored = of_tray P c.args.letters c.args.ends c.in_ok-tray.tray c.in_ok-tray.ensures.tray (c.scan_found.ensures.0, c.scan_found.ensures.1) in
    find_says says stored.0 stored.1
