-- What composing a side of a tray into lent lists of records promises: the answer, and what each buffer holds afterwards.
--   join_record j    == the record of a join: left slip, right slip, overlap
--   place_record c b i == the record of slip i, of side b: its number, its place, kept or set aside, the letters compared, its side
--   ComposeSays     == the promise, for every input: settings g; tray s, es, cs; work area w, legend l, joins js, places ps before, and w', l', js', ps'
--                      after; answer r
use Rattle.std.specs.Prelude.{◌≡◌, not, List, map, ℕ, length}
use Rattle.trays.specs.declared.Refusal.{Refusal}
use Rattle.trays.specs.declared.Settings.{Settings}
use Rattle.trays.specs.Slips.{slips_of}
use Rattle.trays.specs.Aside.{is_aside}
use Rattle.trays.specs.Faults.{written}
use Rattle.trays.specs.Sides.{of_side}
use Rattle.greedy.specs.Joins as G
use Rattle.greedy.specs.Composing.{Composing, sided, joins_of, legend_of, place_of, compared_of}
use Rattle.answers.specs.WorkArea.{WorkKept}
use Rattle.answers.specs.declared.Composed.{Composed}
use Rattle.answers.specs.Composing.{before_c, compose_fault, composed_of}
use Rattle.answers.specs.declared.Join.{Join}
use Rattle.answers.specs.declared.Place.{Place}

-- Rules: a record of a join has left slip, right slip and overlap.
abbrev pub join_record : G.Join → Join
join_record j = record { left = j.left; right = j.right; overlap = j.overlap }

-- Rules: a record of places holds the slip's number, its place, kept or set aside, the count of letters compared, and the side.
abbrev pub place_record : Composing → ℕ → ℕ → Place
place_record c b i =
    record { slip = i; place = place_of c i; kept = not (is_aside c.slips c.members i); compared = compared_of c i; side = b }

-- the refusal, given the lengths of what was lent
abbrev pub fault_of : Settings → List ℕ → List ℕ → List ℕ → List ℕ → List ℕ → List Join → List Place → Refusal
fault_of g s es cs w l js ps = compose_fault g s es cs (length w) (length l) (length js) (length ps)

-- On success the first part of each buffer is the outcome and the rest is unchanged; a refusal leaves each as it was, but for the work area from place C on.
pub record ComposeSays (g : Settings) (s es cs w w' l l' : List ℕ) (js js' : List Join) (ps ps' : List Place) (r : Composed) : Type 0 where
  pub answer-is : r ≡ composed_of g s es cs (length w) (length l) (length js) (length ps)
  pub legend_is : l' ≡ written (fault_of g s es cs w l js ps) (legend_of (sided g cs (slips_of s es))) l
  pub joins_are : js' ≡ written (fault_of g s es cs w l js ps) (map join_record (joins_of (sided g cs (slips_of s es)))) js
  -- Rules, sides: a record for each slip of the side, in slip order.
  pub places_are : ps' ≡ written (fault_of g s es cs w l js ps) (map (place_record (sided g cs (slips_of s es)) g.side) (of_side cs g.side)) ps
  pub work_is : WorkKept (before_c g s es cs (length w)) w w'
