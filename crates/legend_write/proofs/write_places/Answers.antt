use Rattle.legend_write.proofs.StageSteps.{places_asks, aside_asks, places_same, places_given}
use Rattle.legend_write.proofs.write_places.Goals as goal

pub kept_places-requires : goal.kept_places-requires
kept_places-requires c = search places_asks

pub aside_places-requires : goal.aside_places-requires
aside_places-requires c =
    aside_asks _ _ _ _ _ _ c.requires _ c.clear.ensures _ c.kept_places.ensures

pub shape_of-work : goal.shape_of-work
shape_of-work c =
    places_same _ _ _ _ _ _ c.requires _ c.clear.ensures _ c.kept_places.ensures _ c.aside_places.ensures

pub returns : goal.returns
returns c =
    places_given _ _ _ _ _ _ c.requires _ c.clear.ensures _ c.kept_places.ensures _ c.aside_places.ensures
