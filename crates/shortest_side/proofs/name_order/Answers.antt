use Rattle.shortest_side.proofs.NameSteps.{naming_none, name_fits, name_listed, name_room, name_some, name_known, naming_more, naming_all}
use Rattle.shortest_side.proofs.name_order.Goals as goal

pub loop-i-init : goal.loop-i-init
loop-i-init c = search naming_none

pub offset_bounds-order-i : goal.offset_bounds-order-i
offset_bounds-order-i c = record { fits = search name_fits }

pub bounds-order-i : goal.bounds-order-i
bounds-order-i c = search name_listed

pub number_of-number-requires : goal.number_of-number-requires
number_of-number-requires c = (search name_some, search name_known)

pub offset_bounds-named-i : goal.offset_bounds-named-i
offset_bounds-named-i c = record { fits = search name_fits }

pub bounds-named-i : goal.bounds-named-i
bounds-named-i c = search name_room

pub loop-i-preserved : goal.loop-i-preserved
loop-i-preserved c = search naming_more

pub returns : goal.returns
returns c = search naming_all
