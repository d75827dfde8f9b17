use mathlib.Core.Path.{refl}
use mathlib.Core.List.{List}
use Prim.Native.Nat.{ℕ}
use Rattle.std.proofs.lemmas.Result.{err_from_is_err_and}
use Rattle.trays.specs.Slips.{slips_of}
use Rattle.trays.proofs.Told.{at_tray, of_tray}
use Rattle.greedy.specs.Composing.{sided}
use Rattle.answers.specs.Told.{shortest_from}
use Rattle.answers.specs.Steps.Sides.{SideAsks}
use Rattle.shortest_core.specs.Steps.Seeking.{Finished}
use Rattle.shortest_legend.proofs.TopSteps.{says_tray, says_room, side_asks, says_all}
use Rattle.shortest_legend.proofs.shortest_legend.Goals as goal

pub returns-in_err-tray : goal.returns-in_err-tray
returns-in_err-tray c =
    let p = err_from_is_err_and c.from_residual.result c.from_residual.ensures.1 in
    rw (p.1, p.2) (says_tray _ _ _ _ _ _ _ c.in_err-tray.field-0.0 c.in_err-tray.ensures.fault refl)

pub returns-then-work-lt-WORK_NEED : goal.returns-then-work-lt-WORK_NEED
returns-then-work-lt-WORK_NEED c = says_room _ _ _ _ _ _ _ c.in_ok-tray.ensures.fault c.if-work-lt-WORK_NEED.true refl

pub seek_side-requires : goal.seek_side-requires
seek_side-requires c =
    let P : List ℕ → List ℕ → Type 0 = λ s es. SideAsks s es c.args.sides.now c.args.work.now in
    at_tray P c.args.letters c.args.ends c.in_ok-tray.tray c.in_ok-tray.ensures.tray
    (side_asks c.args.settings _ _ _ _ c.in_ok-tray.ensures.fault c.if-work-lt-WORK_NEED.false)

pub returns : goal.returns
returns c =
    let g = c.args.settings in
    let P : List ℕ → List ℕ → Type 0 = λ s es.
    Finished (sided g c.args.sides.now (slips_of s es)) c.args.work.now c.seek_side.new.work c.args.legend.now c.seek_side.new.legend
    (shortest_from c.seek_side.result) in
    says_all g _ _ _ _ _ _ c.in_ok-tray.ensures.fault c.if-work-lt-WORK_NEED.false _ _
    (of_tray P c.args.letters c.args.ends c.in_ok-tray.tray c.in_ok-tray.ensures.tray c.seek_side.ensures)
