-- Every number that is printed fits its columns.
--   ComposeFits c    == the numbers of the `compose` sheet of what is composed are within the rules' limits
--   FindFits ss t    == those of the `find` sheet
--   RefusalFits f    == a refusal's number has at most two digits, and its detail fits
use Rattle.std.specs.Prelude.{ℕ, ◌*◌, ◌-◌, ◌^◌, ◌≤◌, ◌<◌, List, length}
use Rattle.words.specs.Lists.{All}
use Rattle.words.specs.Steps.Members.{In}
use Rattle.trays.specs.declared.Refusal.{Refusal}
use Rattle.trays.specs.Limits.{max_slips, max_slip, max_letters, max_text}
use Rattle.trays.specs.Slips.{slip}
use Rattle.greedy.specs.Joins.{Join, saved}
use Rattle.greedy.specs.Composing.{Composing, kept_of, joins_of, legend_of, place_of, kept_letters}
use Rattle.matching.specs.Moves.{moves}
use Rattle.matching.specs.Occurrences.{Occurrence, occurrences}
use Rattle.sheet_rule.specs.Sheets.{detail_width}

abbrev pub JoinFits : Join → Type 0
JoinFits j = (j.left ≤ max_slips) × (j.right ≤ max_slips) × (j.overlap ≤ max_slip)

pub record ComposeFits (c : Composing) : Type 0 where
  pub slips : length c.members ≤ max_slips
  pub kept_slips : length (kept_of c) ≤ max_slips
  pub letters : kept_letters c ≤ max_letters
  pub saved-letters : saved (joins_of c) ≤ max_letters
  pub legend : length (legend_of c) ≤ max_letters
  pub numbers : (i : ℕ) → In i c.members → i ≤ max_slips
  pub lengths : (i : ℕ) → In i c.members → length (slip c.slips i) ≤ max_slip
  pub places : (i : ℕ) → In i c.members → place_of c i ≤ max_letters
  pub joins : All JoinFits (joins_of c)
  pub count : length (joins_of c) ≤ max_slips - 1

abbrev pub OccurrenceFits : Occurrence → Type 0
OccurrenceFits f = (f.end ≤ max_text) × (f.which ≤ max_slips)

pub record FindFits (ss : List (List ℕ)) (t : List ℕ) : Type 0 where
  pub moves_few : moves ss t ≤ 2 * max_text
  pub found : All OccurrenceFits (occurrences ss t)
  -- a refusal 14 names this count
  pub count : length (occurrences ss t) ≤ max_slips * max_text

pub record RefusalFits (f : Refusal) : Type 0 where
  pub number_fits : f.number < 10 ^ 2
  pub detail_fits : f.detail < 10 ^ detail_width
