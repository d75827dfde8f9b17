-- What composing one side leaves, in the work area its joins and its records of places as numbers.
--   SideFinished  == of what is composed, c, where the rows before place C are silent: the answer, the legend, and joins and records of side b
--   Staged        == of any settings g and any tray s with ends es and sides cs: the answer, the legend, the work area
use Rattle.std.specs.Prelude.{◌≡◌, List, ℕ, ◌*◌, length}
use Rattle.tables.specs.Tables.{table}
use Rattle.trays.specs.declared.Settings.{Settings}
use Rattle.trays.specs.Slips.{slips_of}
use Rattle.trays.specs.Faults.{first_row, written}
use Rattle.greedy.specs.Composing.{Composing, sided, joins_of, legend_of}
use Rattle.layout.specs.Layout.{NAMED, RECORDS}
use Rattle.answers.specs.WorkArea.{WorkKept}
use Rattle.answers.specs.declared.Composed.{Composed}
use Rattle.answers.specs.Composing.{before_c, room_rows, compose_fault, composed_by, composed_of, join_cells, flat_joins, record_cells, flat_records}

pub record SideFinished (c : Composing) (b : ℕ) (w w' l l' : List ℕ) (j p : ℕ) (r : Composed) : Type 0 where
  pub answer-is : r ≡ composed_by (first_row (room_rows c (length l) j p)) c
  pub legend_is : l' ≡ written (first_row (room_rows c (length l) j p)) (legend_of c) l
  pub same : length w' ≡ length w
  pub joins_are : r.number ≡ 0 → table w' NAMED (join_cells * r.joins) ≡ flat_joins (joins_of c)
  pub records_are : r.number ≡ 0 → table w' RECORDS (record_cells * r.slips) ≡ flat_records c b

pub record Staged (g : Settings) (s es cs w w' l l' : List ℕ) (j p : ℕ) (r : Composed) : Type 0 where
  pub answer-is : r ≡ composed_of g s es cs (length w) (length l) j p
  pub legend_is : l' ≡ written (compose_fault g s es cs (length w) (length l) j p) (legend_of (sided g cs (slips_of s es))) l
  pub work_is : WorkKept (before_c g s es cs (length w)) w w'
  pub joins_are : r.number ≡ 0 → table w' NAMED (join_cells * r.joins) ≡ flat_joins (joins_of (sided g cs (slips_of s es)))
  pub records_are : r.number ≡ 0 → table w' RECORDS (record_cells * r.slips) ≡ flat_records (sided g cs (slips_of s es)) g.side
