-- The last step of composing: what it asks and leaves.
--   AfterWalk g  == the work area after the walk with the settings g: kept slips and joins
--   Joined g     == so, and the lists of neighbours; SomeJoined == so with some settings
--   outcome_by    == the answer made of the counts
--   Finished c   == what the last step leaves of what is composed
--   FinishedAs   == so, whatever settings the joins were made with: the last step itself asks for none
use Rattle.std.specs.Prelude.{◌≡◌, List, ℕ, ◌*◌, ◌^◌, ◌≤◌, ◌<◌, length}
use Rattle.tables.specs.Tables.{table}
use Rattle.trays.specs.declared.Settings.{Settings}
use Rattle.trays.specs.Limits.{max_slips, work_need}
use Rattle.trays.specs.Slips.{slips_of}
use Rattle.trays.specs.Faults.{first_row, tray_fault, written}
use Rattle.greedy.specs.Composing.{Composing, whole, kept_of, joins_of, legend_of}
use Rattle.layout.specs.Layout.{JOINS, PLACES}
use Rattle.layout.specs.Staging.{kept_in, joins_in, Neighbours}
use Rattle.answers.specs.declared.Composed.{Composed}
use Rattle.answers.specs.Composing.{room_rows, composed_by, join_cells, flat_joins, place_cells, flat_places}
use Rattle.legend_counts.specs.declared.LetterCounts.{LetterCounts}

pub record AfterWalk (g : Settings) (s es w : List ℕ) (k j : ℕ) : Type 0 where
  pub room : work_need ≤ length w
  pub tray : (tray_fault s es).number ≡ 0
  pub kept-is : kept_in w k ≡ kept_of (whole g (slips_of s es))
  pub few_kept : k ≤ max_slips
  pub joins_are : joins_in w j ≡ joins_of (whole g (slips_of s es))
  pub few_joins : j ≤ max_slips

pub record Joined (g : Settings) (s es w : List ℕ) (k j : ℕ) (left right overs : List ℕ) : Type 0 where
  pub walked : AfterWalk g s es w k j
  pub neighbours : Neighbours (joins_in w j) left right overs

pub record SomeJoined (s es w : List ℕ) (k j : ℕ) (left right overs : List ℕ) : Type 0 where
  pub settings : Settings
  pub joined : Joined settings s es w k j left right overs

-- the answer made of the counts
abbrev pub outcome_by : ℕ → ℕ → LetterCounts → ℕ → Composed
outcome_by slips k c j =
    record { number = 0; detail = 0; slips = slips; kept = k; letters = c.letters; saved = c.saved; legend = c.need; joins = j }

pub record OutcomeAsks (slips k : ℕ) (c : LetterCounts) (j : ℕ) : Type 0 where
  pub slips_fit : slips < 2 ^ 32
  pub kept_fit : k < 2 ^ 32
  pub letters_fit : c.letters < 2 ^ 32
  pub saved_fit : c.saved < 2 ^ 32
  pub need_fit : c.need < 2 ^ 32
  pub joins_fit : j < 2 ^ 32

-- the rows before place C are silent
pub record Finished (c : Composing) (w w' l l' : List ℕ) (j p : ℕ) (r : Composed) : Type 0 where
  pub answer-is : r ≡ composed_by (first_row (room_rows c (length l) j p)) c
  pub legend_is : l' ≡ written (first_row (room_rows c (length l) j p)) (legend_of c) l
  pub same : length w' ≡ length w
  pub joins_are : r.number ≡ 0 → table w' JOINS (join_cells * r.joins) ≡ flat_joins (joins_of c)
  pub places_are : r.number ≡ 0 → table w' PLACES (place_cells * r.slips) ≡ flat_places c

pub record FinishedAs (s es w w' l l' : List ℕ) (k j : ℕ) (left right overs : List ℕ) (jr pr : ℕ) (r : Composed) : Type 0 where
  pub same : length w' ≡ length w
  pub for_any : (g : Settings) → Joined g s es w k j left right overs → Finished (whole g (slips_of s es)) w w' l l' jr pr r
