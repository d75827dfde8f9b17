-- Invariant: of the first i slips each that is not marked as kept has its place in the legend; the places of the others are as they were.
use mathlib.Core.Path.{◌≡◌}
use lib.ListN.{length}
use Rattle.trays.specs.Slips.{slips_of}
use Rattle.legend_places.specs.Places.{aside_by}
use Rattle.legend_places.proofs.aside_places.Given as goal

abbrev pub invariant-loop-i : goal.invariant-loop-i
invariant-loop-i l =
    (l.places ≡ aside_by (slips_of l.tray.letters.now l.tray.ends.now) l.legend l.initial.places l.i) × (length l.places ≡ length l.initial.places)
