use Rattle.std.proofs.lemmas.Result.{err_from_is_err_and}
use mathlib.Core.List.{List}
use Prim.Native.Nat.{ℕ}
use lib.ListN.{length}
use Rattle.words.specs.Lists.{in_order}
use Rattle.trays.specs.Slips.{slips_of}
use Rattle.trays.proofs.Told.{at_tray, of_tray}
use Rattle.tables.specs.Tables.{table, Filled}
use Rattle.index_rule.specs.Index.{precedes}
use Rattle.trie_order.specs.Order.{Sortable}
use Rattle.tray_index.proofs.Building.{built_none, fill_few, fill_room, sort_asks, sort_room, built_all}
use Rattle.tray_index.proofs.build_index.Goals as goal

pub returns-in_err-tray : goal.returns-in_err-tray
returns-in_err-tray c =
    let p = err_from_is_err_and c.from_residual.result c.from_residual.ensures.1 in
    rw (p.1, p.2) (built_none _ _ _ _ _ c.in_err-tray.ensures.fault)

pub fill_members-requires : goal.fill_members-requires
fill_members-requires c =
    let e = c.in_ok-tray.ensures.fault in
    (fill_room _ _ _ _ e, fill_few _ _ _ _ e)

pub sort_table-requires : goal.sort_table-requires
sort_table-requires c =
    let e = c.in_ok-tray.ensures.fault in
    let P : List ℕ → List ℕ → Type 0 = λ s es. Sortable s es (table c.fill_members.new.work 0 (length c.args.ends.now)) in (
      at_tray P c.args.letters c.args.ends c.in_ok-tray.tray c.in_ok-tray.ensures.tray (sort_asks _ _ _ _ e _ c.fill_members.ensures),
      sort_room _ _ _ _ e _ c.fill_members.ensures,
    )

pub returns : goal.returns
returns c =
    let P : List ℕ → List ℕ → Type 0 = λ s es.
    Filled 0 (length c.args.ends.now) (in_order (precedes (slips_of s es)) (table c.fill_members.new.work 0 (length c.args.ends.now)))
    c.fill_members.new.work c.sort_table.new.work in
    built_all _ _ _ _ c.in_ok-tray.ensures.fault _ c.fill_members.ensures _
    (of_tray P c.args.letters c.args.ends c.in_ok-tray.tray c.in_ok-tray.ensures.tray c.sort_table.ensures)
