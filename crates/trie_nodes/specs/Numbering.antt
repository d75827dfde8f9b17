-- The nodes of the prefix automaton, numbered from the sorted order of the members. The tray has letters s and ends es; the n members and
-- their order are read off the work area w.
--   Sorted s es n w               == the tray is accepted, and w has the members, ascending, their order, and what each has in common with
--                                    the one before it there
--   NodeCells                     == the places of the tables LEVEL, AT, OWN, which stand side by side
--   NodesFilled s es n w nodes w' == only these tables were written, and they are right: this many nodes have a letter
use Rattle.std.specs.Prelude.{◌≡◌, List, ℕ, ◌-◌, ◌≤◌, ◌<◌, length}
use Rattle.words.specs.Lists.{in_order}
use Rattle.words.specs.Steps.Members.{In, Asc}
use Rattle.trays.specs.Limits.{max_slips, work_need}
use Rattle.trays.specs.Slips.{slips_of}
use Rattle.trays.specs.Faults.{tray_fault}
use Rattle.tables.specs.Tables.{table, Cells, Only}
use Rattle.trie_order.specs.Order.{precedes, commons}
use Rattle.layout.specs.Layout.{ORDER, COMMON, LEVEL, KID}
use Rattle.layout.specs.Tables.{members}
use Rattle.layout.specs.Numbered.{Numbered}

pub record Sorted (s es : List ℕ) (n : ℕ) (w : List ℕ) : Type 0 where
  pub room : work_need ≤ length w
  pub accepted : (tray_fault s es).number ≡ 0
  pub few_members : n ≤ max_slips
  pub ascending : Asc ◌<◌ (members w n)
  pub real : (i : ℕ) → In i (members w n) → (1 ≤ i) × (i ≤ length es)
  pub order : table w ORDER n ≡ in_order (precedes (slips_of s es)) (members w n)
  pub common : table w COMMON n ≡ commons (slips_of s es) 0 (table w ORDER n)

abbrev pub NodeCells : ℕ → Type 0
NodeCells = Cells LEVEL (KID - LEVEL)

pub record NodesFilled (s es : List ℕ) (n : ℕ) (w : List ℕ) (nodes : ℕ) (w' : List ℕ) : Type 0 where
  pub numbered : Numbered s es n nodes w'
  pub only : Only NodeCells w w'
