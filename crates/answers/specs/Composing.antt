-- Composing a side of a tray: refusals 7, 8 and 9 after those of the settings, the tray and its sides, the answer, and what each buffer holds afterwards.
--   before_c g s es cs w   == what refuses composing before place C, with the settings g
--   room_rows c l j p      == place C: legend room l, room for j joins and p places
--   compose_fault          == what refuses composing
--   composed_of            == the answer
--   join_cells             == how many numbers a join has
--   join_numbers j         == a join as numbers: left slip, right slip, overlap; flat_joins js == the joins as numbers
--   place_cells            == how many numbers a place has where it is staged
--   place_numbers c i      == the place of slip i as numbers: its place, 1 if it is kept, and the letters compared to find it
--   flat_places c          == the places of all slips as numbers
--   record_cells           == how many numbers a record of places has
--   record_numbers c b i   == the record of slip i, of side b, as numbers: its number, the numbers of its place, its side
--   flat_records c b       == the records of all members as numbers
use Rattle.std.specs.Prelude.{cond, ◌||◌, List, [], ◌∷◌, ◌++◌, ℕ, zero, suc, ltb, length}
use Rattle.words.specs.Lists.{each}
use Rattle.trays.specs.declared.Refusal.{Refusal}
use Rattle.trays.specs.declared.Settings.{Settings}
use Rattle.trays.specs.Slips.{slips_of, numbers}
use Rattle.trays.specs.Aside.{is_aside}
use Rattle.trays.specs.Faults.{row, first_row}
use Rattle.trays.specs.Sides.{sided_rows}
use Rattle.greedy.specs.Joins.{Join, saved}
use Rattle.greedy.specs.Composing.{Composing, sided, kept_of, joins_of, legend_of, place_of, compared_of, kept_letters}
use Rattle.answers.specs.WorkArea.{work_row}
use Rattle.answers.specs.declared.Composed.{Composed}

unfoldable pub before_c : Settings → List ℕ → List ℕ → List ℕ → ℕ → Refusal
before_c g s es cs w = first_row (sided_rows g.least g.side s es cs ++ (work_row w ∷ []))

-- Rules, place C: the legend is longer than its buffer; more joins than the list takes, or fewer than one record of places a slip that takes part.
abbrev pub room_rows : Composing → ℕ → ℕ → ℕ → List Refusal
room_rows c l j p =
    let need = length (legend_of c) in
    let joins = length (joins_of c) in
    row 8 (ltb l need) need ∷ (row 9 (ltb j joins || ltb p (length c.members)) joins ∷ [])

unfoldable pub compose_fault : Settings → List ℕ → List ℕ → List ℕ → ℕ → ℕ → ℕ → ℕ → Refusal
compose_fault g s es cs w l j p =
    first_row (sided_rows g.least g.side s es cs ++ (work_row w ∷ room_rows (sided g cs (slips_of s es)) l j p))

-- the answer to a side that is composed
abbrev pub outcome_of : Composing → Composed
outcome_of c =
    record {
      number = 0;
      detail = 0;
      slips = length c.members;
      kept = length (kept_of c);
      letters = kept_letters c;
      saved = saved (joins_of c);
      legend = length (legend_of c);
      joins = length (joins_of c);
    }

abbrev pub refused_by : Refusal → Composed
refused_by f = record { number = f.number; detail = f.detail; slips = 0; kept = 0; letters = 0; saved = 0; legend = 0; joins = 0 }

-- the answer where f is what refuses it
abbrev pub composed_by : Refusal → Composing → Composed
composed_by f c = elim f.number [ zero ↦ outcome_of c | suc n ↦ refused_by f ]

unfoldable pub composed_of : Settings → List ℕ → List ℕ → List ℕ → ℕ → ℕ → ℕ → ℕ → Composed
composed_of g s es cs w l j p = composed_by (compose_fault g s es cs w l j p) (sided g cs (slips_of s es))

abbrev pub join_cells : ℕ
join_cells = 3

abbrev pub join_numbers : Join → List ℕ
join_numbers j = j.left ∷ (j.right ∷ (j.overlap ∷ []))

abbrev pub flat_joins : List Join → List ℕ
flat_joins js = each join_numbers js

abbrev pub place_cells : ℕ
place_cells = 3

abbrev pub place_numbers : Composing → ℕ → List ℕ
place_numbers c i = place_of c i ∷ (cond (is_aside c.slips c.members i) 0 1 ∷ (compared_of c i ∷ []))

-- for every slip, a member or not
abbrev pub flat_places : Composing → List ℕ
flat_places c = each (place_numbers c) (numbers c.slips)

abbrev pub record_cells : ℕ
record_cells = 5

-- Rules, sides: the record of places carries the side.
abbrev pub record_numbers : Composing → ℕ → ℕ → List ℕ
record_numbers c b i = i ∷ (place_numbers c i ++ (b ∷ []))

abbrev pub flat_records : Composing → ℕ → List ℕ
flat_records c b = each (record_numbers c b) c.members
