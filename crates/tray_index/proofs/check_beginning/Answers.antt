use mathlib.Core.Path.{◌≡◌}
use mathlib.Core.List.{List}
use Prim.Native.Nat.{ℕ}
use Rattle.words.specs.Words.{same}
use Rattle.trays.specs.Slips.{slips_of}
use Rattle.trays.proofs.Told.{of_tray}
use Rattle.index_rule.specs.Index.{index_of}
use Rattle.std.proofs.lemmas.Result.{err_from_is_err_and}
use Rattle.tray_index.proofs.Asking.{begin_tray, begin_text, begin_other}
use Rattle.tray_index.proofs.check_beginning.Goals as goal

pub returns-in_err-tray-clause-fault : goal.returns-in_err-tray-clause-fault
returns-in_err-tray-clause-fault c =
    let p = err_from_is_err_and c.from_residual.result c.from_residual.ensures.1 in
    rw (p.1, p.2) (begin_tray _ _ _ _ _ _ c.in_err-tray.ensures.fault)

pub returns-then-not-is_index-clause-fault : goal.returns-then-not-is_index-clause-fault
returns-then-not-is_index-clause-fault c =
    let P : List ℕ → List ℕ → Type 0 = λ s es. c.is_index.result ≡ same c.args.index.now (index_of (slips_of s es)) in
    begin_other _ _ _ _ _ c.in_ok-tray.ensures.fault _ (of_tray P c.args.letters c.args.ends c.in_ok-tray.tray c.in_ok-tray.ensures.tray c.is_index.ensures)
    c.if-not-is_index.true

pub returns-in_err-check_text-clause-fault : goal.returns-in_err-check_text-clause-fault
returns-in_err-check_text-clause-fault c =
    let e = c.from_residual-in_err-check_text in
    let p = err_from_is_err_and e.result e.ensures.1 in
    let P : List ℕ → List ℕ → Type 0 = λ s es. c.is_index.result ≡ same c.args.index.now (index_of (slips_of s es)) in
    rw (p.1, p.2)
    (begin_text _ _ _ _ _ c.in_ok-tray.ensures.fault _ (of_tray P c.args.letters c.args.ends c.in_ok-tray.tray c.in_ok-tray.ensures.tray c.is_index.ensures)
    c.if-not-is_index.false _ c.in_err-check_text.ensures)

pub returns-clause-fault : goal.returns-clause-fault
returns-clause-fault c =
    let P : List ℕ → List ℕ → Type 0 = λ s es. c.is_index.result ≡ same c.args.index.now (index_of (slips_of s es)) in
    begin_text _ _ _ _ _ c.in_ok-tray.ensures.fault _ (of_tray P c.args.letters c.args.ends c.in_ok-tray.tray c.in_ok-tray.ensures.tray c.is_index.ensures)
    c.if-not-is_index.false _ c.in_ok-check_text.ensures
