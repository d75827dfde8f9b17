use mathlib.Core.Path.{refl}
use Rattle.shortest_core.proofs.WriteSteps.{pieces_can, need_small, too_short, lay_can, answer_can, laid_all}
use Rattle.shortest_core.proofs.write_order.Goals as goal

pub order_pieces-need-requires : goal.order_pieces-need-requires
order_pieces-need-requires c = search pieces_can

pub overflow_cast-result : goal.overflow_cast-result
overflow_cast-result c = record { fits = search need_small }

pub returns-then-legend-need : goal.returns-then-legend-need
returns-then-legend-need c =
    too_short c.args.settings _ _ _ _ c.requires _ refl _ _ c.order_pieces-need.ensures _ _ _ c.if-legend-need.true refl refl

pub lay-requires : goal.lay-requires
lay-requires c = search lay_can

pub overflow_cast-result-2 : goal.overflow_cast-result-2
overflow_cast-result-2 c = record { fits = search need_small }

pub overflow_cast-result-3 : goal.overflow_cast-result-3
overflow_cast-result-3 c = record { fits = (answer_can c.args.settings _ _ _ _ c.requires _ refl _ _ c.order_pieces-need.ensures).count_fits }

pub returns : goal.returns
returns c = laid_all c.args.settings _ _ _ _ c.requires _ refl _ _ c.order_pieces-need.ensures _ c.if-legend-need.false _ _ c.lay.ensures refl
