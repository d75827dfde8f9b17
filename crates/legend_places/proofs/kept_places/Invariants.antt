-- Invariant: the places of the first q pieces' slips are written and `here` is where the next letters go: the pieces from q on, placed from `here`,
-- complete the places.
use Rattle.legend_places.proofs.PlacesLoop.{Placing}
use Rattle.legend_places.proofs.kept_places.Given as goal

abbrev pub invariant-loop-q : goal.invariant-loop-q
invariant-loop-q l = Placing l.tray.letters.now l.tray.ends.now l.pieces l.n l.initial.places l.q l.here l.places
