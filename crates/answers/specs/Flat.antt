-- Composing over slices of numbers, for every input: `join_cells` numbers a join, `record_cells` a record of places.
--   flat_fault  == what refuses it, given the lengths of what was lent
--   ComposeFlat == the answer, and what each lent buffer holds afterwards
use Rattle.std.specs.Prelude.{◌≡◌, List, ℕ, ◌/◌, length}
use Rattle.trays.specs.declared.Settings.{Settings}
use Rattle.trays.specs.Slips.{slips_of}
use Rattle.trays.specs.declared.Refusal.{Refusal}
use Rattle.trays.specs.Faults.{written}
use Rattle.greedy.specs.Composing.{sided, joins_of, legend_of}
use Rattle.answers.specs.WorkArea.{WorkKept}
use Rattle.answers.specs.declared.Composed.{Composed}
use Rattle.answers.specs.Composing.{before_c, compose_fault, composed_of, join_cells, flat_joins, record_cells, flat_records}

-- a list takes as many records as it has numbers for
abbrev pub flat_fault : Settings → List ℕ → List ℕ → List ℕ → List ℕ → List ℕ → List ℕ → List ℕ → Refusal
flat_fault g s es cs w l j p = compose_fault g s es cs (length w) (length l) (length j / join_cells) (length p / record_cells)

pub record ComposeFlat (g : Settings) (s es cs w w' l l' j j' p p' : List ℕ) (r : Composed) : Type 0 where
  pub answer-is : r ≡ composed_of g s es cs (length w) (length l) (length j / join_cells) (length p / record_cells)
  pub legend_is : l' ≡ written (flat_fault g s es cs w l j p) (legend_of (sided g cs (slips_of s es))) l
  pub joins_are : j' ≡ written (flat_fault g s es cs w l j p) (flat_joins (joins_of (sided g cs (slips_of s es)))) j
  pub places_are : p' ≡ written (flat_fault g s es cs w l j p) (flat_records (sided g cs (slips_of s es)) g.side) p
  pub work_is : WorkKept (before_c g s es cs (length w)) w w'
