use Rattle.shortest_core.proofs.OrderSteps.{naming_none, place-fits, place_listed, known_fits, place_known, name_room, naming_more, naming_all}
use Rattle.shortest_core.proofs.name_places.Goals as goal

pub loop-i-init : goal.loop-i-init
loop-i-init c = search naming_none

pub offset_bounds-places-i : goal.offset_bounds-places-i
offset_bounds-places-i c = record { fits = search place-fits }

pub bounds-places-i : goal.bounds-places-i
bounds-places-i c = search place_listed

pub offset_bounds-kept-place : goal.offset_bounds-kept-place
offset_bounds-kept-place c = record { fits = search known_fits }

pub bounds-kept-place : goal.bounds-kept-place
bounds-kept-place c = search place_known

pub offset_bounds-order-i : goal.offset_bounds-order-i
offset_bounds-order-i c = record { fits = search place-fits }

pub bounds-order-i : goal.bounds-order-i
bounds-order-i c = search name_room

pub loop-i-preserved : goal.loop-i-preserved
loop-i-preserved c = search naming_more

pub returns : goal.returns
returns c = search naming_all
