use Rattle.legend_write.proofs.WriteSteps.{lay_asks, lent_count, place_asks, written_out}
use Rattle.legend_write.proofs.write_out.Goals as goal

pub lay-requires : goal.lay-requires
lay-requires c = search lay_asks

pub slice_bounds-write_places-end-2 : goal.slice_bounds-write_places-end-2
slice_bounds-write_places-end-2 c = search lent_count

pub write_places-requires : goal.write_places-requires
write_places-requires c = search place_asks

pub returns : goal.returns
returns c = search written_out
