use mathlib.Core.Path.{refl}
use Rattle.std.proofs.lemmas.Result.{err_from_is_err_and}
use Rattle.tray_cut.proofs.SideCut.{sides_few, slips_fit, slips_counted, side_cut}
use Rattle.shortest_side.proofs.SideSteps.{order_can, named_sought, side_sought}
use borrow.Author.Rules.{rules}
use Rattle.shortest_side.proofs.seek_side.Goals as goal

pub side_slips-own-requires : goal.side_slips-own-requires
side_slips-own-requires c = search sides_few

pub slice_bounds-slips-end : goal.slice_bounds-slips-end
slice_bounds-slips-end c = search slips_fit

pub slice_bounds-slips-end-2 : goal.slice_bounds-slips-end-2
slice_bounds-slips-end-2 c = search slips_counted

pub seek_cut-requires : goal.seek_cut-requires
seek_cut-requires c = record { can_cut = search side_cut; work_need_in_bounds = search rules }

pub returns-in_err-found : goal.returns-in_err-found
returns-in_err-found c =
    let p = err_from_is_err_and c.from_residual.result c.from_residual.ensures.1 in
    rw (p.1, p.2)
    (side_sought _ _ _ c.side_slips-own.ensures _ _ _ _ _ _
    (named_sought c.args.settings _ _ _ _ (side_cut _ _ _ c.requires.accepted _ _ c.side_slips-own.ensures) _ _ _ _ c.in_err-found.ensures _ refl _ refl))

pub name_order-named-requires : goal.name_order-named-requires
name_order-named-requires c =
    order_can c.args.settings _ _ _ _ (side_cut _ _ _ c.requires.accepted _ _ c.side_slips-own.ensures) _ _ _ _ c.in_ok-found.ensures _ refl

pub returns : goal.returns
returns c =
    side_sought _ _ _ c.side_slips-own.ensures _ _ _ _ _ _
    (named_sought c.args.settings _ _ _ _ (side_cut _ _ _ c.requires.accepted _ _ c.side_slips-own.ensures) _ _ _ _
    c.in_ok-found.ensures _ refl _ c.name_order-named.ensures)
