-- The automaton of all slips of a tray, built in the work area.
--   Buildable s es w       == the tray is accepted, and the work area is large enough
--   SortedAll s es w w'    == all slips are members, sorted by letters
--   Built s es w nodes w'  == and their automaton stands; this many nodes have a letter
use Rattle.std.specs.Prelude.{◌≡◌, List, ℕ, ◌≤◌, length}
use Rattle.trays.specs.Limits.{work_need}
use Rattle.trays.specs.Slips.{slips_of, numbers}
use Rattle.trays.specs.Faults.{tray_fault}
use Rattle.layout.specs.Tables.{members}
use Rattle.layout.specs.Numbered.{Automaton}
use Rattle.trie_nodes.specs.Numbering.{Sorted}

pub record Buildable (s es w : List ℕ) : Type 0 where
  pub tray : (tray_fault s es).number ≡ 0
  pub room : work_need ≤ length w

pub record SortedAll (s es w w' : List ℕ) : Type 0 where
  pub sorted : Sorted s es (length es) w'
  pub all_slips : members w' (length es) ≡ numbers (slips_of s es)
  pub same : length w' ≡ length w

pub record Built (s es w : List ℕ) (nodes : ℕ) (w' : List ℕ) : Type 0 where
  pub automaton : Automaton s es (length es) nodes w'
  pub all_slips : members w' (length es) ≡ numbers (slips_of s es)
  pub same : length w' ≡ length w
