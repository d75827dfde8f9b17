-- Some of the slips, composed as a tray that holds these only.
--   Alone c d  == c composes as d does, where slip i of d is the i-th member of c
use Rattle.std.specs.Prelude.{◌≡◌, map}
use Rattle.words.specs.Lists.{entry}
use Rattle.trays.specs.Aside.{is_aside}
use Rattle.greedy.specs.Joins.{saved, rejoin}
use Rattle.greedy.specs.Composing.{Composing, kept_of, joins_of, walk_of, legend_of, place_of, compared_of, kept_letters}

-- Rules, sides: exactly as a tray holding that side only would, slip numbers being the original ones.
pub record Alone (c d : Composing) : Type 0 where
  pub members_are : c.members ≡ map (entry c.members) d.members
  pub kept_are : kept_of c ≡ map (entry c.members) (kept_of d)
  pub joins_are : joins_of c ≡ map (rejoin (entry c.members)) (joins_of d)
  pub walk_is : walk_of c ≡ map (rejoin (entry c.members)) (walk_of d)
  pub legend_is : legend_of c ≡ legend_of d
  -- for the members, one after another
  pub aside_are : map (is_aside c.slips c.members) c.members ≡ map (is_aside d.slips d.members) d.members
  pub places_are : map (place_of c) c.members ≡ map (place_of d) d.members
  pub compared_are : map (compared_of c) c.members ≡ map (compared_of d) d.members
  -- the sums
  pub letters_are : kept_letters c ≡ kept_letters d
  pub saved-is : saved (joins_of c) ≡ saved (joins_of d)
