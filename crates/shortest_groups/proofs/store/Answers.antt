use Rattle.shortest_groups.proofs.StoreLoop.{Saves, store-room, store-put}
use Rattle.shortest_groups.proofs.store.Goals as goal
use Rattle.shortest_groups.proofs.store.Goals.{in-Some, in-None}

pub put-requires : goal.put-requires
put-requires c =
    let s : Saves c.best.result c.match-best.saved =
    elim c.match-best.branch [ in-Some w ↦ rw w.in-Some.is w.saved-is | in-None w ↦ rw w.in-None.is w.saved-is ] in
    search store-room

pub returns : goal.returns
returns c =
    let s : Saves c.best.result c.match-best.saved =
    elim c.match-best.branch [ in-Some w ↦ rw w.in-Some.is w.saved-is | in-None w ↦ rw w.in-None.is w.saved-is ] in
    search store-put
