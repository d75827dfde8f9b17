-- Joins and records of places as structs, from where composing stages them in the work area w (layout's tables NAMED and RECORDS).
--   join_at w i   == join i: its left slip, right slip and overlap are the numbers from join_cells * i on
--   place_at w i  == record i: its slip, its place, 1 if the slip was kept, the letters compared and the side are the numbers from record_cells * i on
--   SideFits w i == the side of record i is a byte; SidesFit w n == so of the first n records
use Rattle.std.specs.Prelude.{List, ℕ, ◌+◌, ◌*◌, ◌<◌, eqb}
use Rattle.layout.specs.Layout.{NAMED, RECORDS}
use Rattle.layout.specs.Tables.{cell}
use Rattle.answers.specs.Composing.{join_cells, record_cells}
use Rattle.answers.specs.declared.Join.{Join}
use Rattle.answers.specs.declared.Place.{Place}

abbrev pub join_at : List ℕ → ℕ → Join
join_at w i = record { left = cell w NAMED (join_cells * i); right = cell w NAMED (join_cells * i + 1); overlap = cell w NAMED (join_cells * i + 2) }

abbrev pub place_at : List ℕ → ℕ → Place
place_at w i =
    let at = record_cells * i in
    record {
      slip = cell w RECORDS at;
      place = cell w RECORDS (at + 1);
      kept = eqb (cell w RECORDS (at + 2)) 1;
      compared = cell w RECORDS (at + 3);
      side = cell w RECORDS (at + 4);
    }

abbrev pub SideFits : List ℕ → ℕ → Type 0
SideFits w i = cell w RECORDS (record_cells * i + 4) < 256

abbrev pub SidesFit : List ℕ → ℕ → Type 0
SidesFit w n = (i : ℕ) → i < n → SideFits w i
