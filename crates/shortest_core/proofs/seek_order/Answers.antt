use Rattle.shortest_core.proofs.OrderSteps.{pairs_can, groups_can, naming_can, order_sought}
use Rattle.shortest_core.proofs.seek_order.Goals as goal

pub fill_pairs-requires : goal.fill_pairs-requires
fill_pairs-requires c = search pairs_can

pub best_order-places-requires : goal.best_order-places-requires
best_order-places-requires c = search groups_can

pub name_places-requires : goal.name_places-requires
name_places-requires c =
    naming_can _ _ _ _ _ _ c.requires _ c.fill_pairs.ensures _ _ c.best_order-places.ensures

pub returns : goal.returns
returns c = search order_sought
