-- Every specimen of the rules (docs/RULES.md, *Specimens*) holds of the definitions: its tray is accepted, and the answer computed is the one written.
use mathlib.Core.Path.{◌≡◌, refl}
use mathlib.Core.List.{map}
use Rattle.trays.specs.Faults.{tray_fault}
use Rattle.trays.specs.Sides.{pair_fault}
use Rattle.claims.specs.Starred.{starred, computed, expected}

pub starred_hold : map computed starred ≡ map expected starred
unfolding starred tray_fault pair_fault
starred_hold = refl
