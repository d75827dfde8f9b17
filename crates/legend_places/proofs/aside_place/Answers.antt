use Rattle.legend_places.proofs.PlacesLoop.{part_some, part_short, place_small, count_small}
use borrow.Author.Rules.{rules}
use Rattle.legend_places.proofs.aside_place.Goals as goal

pub lowest_place-trial-requires : goal.lowest_place-trial-requires
lowest_place-trial-requires c = (search part_some, search part_short, search rules)

pub put_three-requires : goal.put_three-requires
put_three-requires c = (search rules, search place_small, search rules, search count_small)
