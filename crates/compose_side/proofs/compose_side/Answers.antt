use mathlib.Core.Path.{◌≡◌, refl}
use Prim.Native.Nat.{ℕ}
use native.Mathlib.Omega.{arith}
use Rattle.std.proofs.lemmas.Result.{err_from_is_err_and}
use Rattle.trays.proofs.Told.{told_speaks}
use Rattle.compose_side.proofs.NamedSteps.{names_can, records_can, refused_named, named_finished}
use Rattle.tray_cut.proofs.SideCut.{sides_few, slips_fit, slips_counted, side_cut}
use Rattle.compose_side.proofs.TopSteps.{side_finished}
use borrow.Author.Rules.{rules}
use Rattle.compose_side.proofs.compose_side.Goals as goal

pub side_slips-own-requires : goal.side_slips-own-requires
side_slips-own-requires c = search sides_few

pub slice_bounds-slips-end : goal.slice_bounds-slips-end
slice_bounds-slips-end c = search slips_fit

pub slice_bounds-slips-end-2 : goal.slice_bounds-slips-end-2
slice_bounds-slips-end-2 c = search slips_counted

pub compose_cut-requires : goal.compose_cut-requires
compose_cut-requires c = record { le_least = search rules; can_cut = search side_cut; work_need_in_bounds = search rules }

pub returns-in_err-counts : goal.returns-in_err-counts
returns-in_err-counts c =
    let asks = c.requires.side_asks in
    let p = err_from_is_err_and c.from_residual.result c.from_residual.ensures.1 in
    rw (p.1, p.2)
    (side_finished _ _ _ c.side_slips-own.ensures _ _ _ _ _ _ _ _
    (refused_named c.args.settings _ _ _ _ (side_cut _ _ _ asks.accepted _ _ c.side_slips-own.ensures) asks.room c.args.settings.side _ _ _ _ _ _
    c.in_err-counts.ensures (λ z. absurd (omega (arith, told_speaks c.in_err-counts.field-0.0)))))

pub name_joins-requires : goal.name_joins-requires
name_joins-requires c =
    let asks = c.requires.side_asks in
    names_can c.args.settings _ _ _ _ (side_cut _ _ _ asks.accepted _ _ c.side_slips-own.ensures) asks.room c.args.settings.side _ _ _ _ _ _
    c.in_ok-counts.ensures _ refl

pub make_records-requires : goal.make_records-requires
make_records-requires c =
    let asks = c.requires.side_asks in
    records_can c.args.settings _ _ _ _ (side_cut _ _ _ asks.accepted _ _ c.side_slips-own.ensures) asks.room
    c.args.settings.side _ _ _ _ _ _ c.in_ok-counts.ensures _ refl _ c.name_joins.ensures _ refl

pub returns : goal.returns
returns c =
    let asks = c.requires.side_asks in
    side_finished _ _ _ c.side_slips-own.ensures _ _ _ _ _ _ _ _
    (named_finished c.args.settings _ _ _ _ (side_cut _ _ _ asks.accepted _ _ c.side_slips-own.ensures) asks.room _ _ _ _ _ _ _
    c.in_ok-counts.ensures _ refl _ c.name_joins.ensures _ refl _ c.make_records.ensures)
