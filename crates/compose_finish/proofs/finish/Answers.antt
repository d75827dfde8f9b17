use mathlib.Core.Path.{refl}
use mathlib.Core.Logic.{inl, inr}
use Rattle.compose_finish.proofs.LastSteps.{count_can, stage_can, joins_fit, need_fits, outcome_can, write_can}
use Rattle.compose_finish.proofs.LastSteps.{ends_legend, ends_lists, ends_good}
use borrow.Author.Rules.{rules}
use Rattle.compose_finish.proofs.finish.Goals.{then-room-joins-via-then-room-joins, then-room-joins-via-else-room-joins+then-room-tray}
use Rattle.compose_finish.proofs.finish.Goals as goal

pub count_letters-counts-requires : goal.count_letters-counts-requires
count_letters-counts-requires c = search count_can

pub overflow_cast-result : goal.overflow_cast-result
overflow_cast-result c = record { fits = search (need_fits, joins_fit) }

pub returns-then-legend-need : goal.returns-then-legend-need
returns-then-legend-need c = ends_legend _ _ _ _ _ _ _ _ c.requires _ c.count_letters-counts.ensures _ _ _ _ (search rules) refl

pub returns-then-room-joins : goal.returns-then-room-joins
returns-then-room-joins c =
    ends_lists _ _ _ _ _ _ _ _ c.requires _ c.count_letters-counts.ensures _ _ _ (search rules) _
    (elim c.then-room-joins.branch [
      | then-room-joins-via-then-room-joins w ↦ inl w.if-room-joins.true
      | then-room-joins-via-else-room-joins+then-room-tray w ↦ inr (w.if-room-joins.false, w.if-room-tray.true)
    ]) refl

pub pieces_of-pieces-requires : goal.pieces_of-pieces-requires
pieces_of-pieces-requires c = search stage_can

pub write_out-requires : goal.write_out-requires
write_out-requires c = search write_can

pub outcome-requires : goal.outcome-requires
outcome-requires c = search outcome_can

pub returns : goal.returns
returns c =
    ends_good _ _ _ _ _ _ _ _ c.requires _ (search rules) _ _ _ (search rules) _ (search rules) _ _ _ (search rules) (search rules)
    c.write_out.ensures c.outcome.ensures
