-- What the steps of finding ask and leave, for a tray with letters s and ends es, a text t and a work area w.
--   Clear s es t w           == no row before place C turns the call back
--   Prepared s es w nodes w' == the automaton of all slips stands in w' with its output links and tallies, and this many nodes have a letter
--   scan_at s es t i w        == the scan that w keeps stands before occurrence i
--   found_at s es t i         == the record of occurrence i
--   Ready, Next              == what telling occurrence i asks, and leaves
--   Enough .. count w        == this many occurrences can be told
--   Left .. n w w'           == n occurrences were told: w' is as long as w, and is w where n is 0
--   CoreSays                 == finding up to where occurrences are stored: the answer, as many to store as it counts, and a scan before the first
use Rattle.std.specs.Prelude.{◌≡◌, List, ℕ, ◌+◌, ◌≤◌, ◌<◌, length, get_or}
use Rattle.trays.specs.Slips.{slips_of, numbers}
use Rattle.matching.specs.Occurrences as O
use Rattle.matching.specs.Occurrences.{occurrences}
use Rattle.layout.specs.Tables.{cell, members}
use Rattle.trie_outputs.specs.Steps.Outputs.{Told}
use Rattle.trie_scan.specs.Steps.Scanning.{Standing, scan_in}
use Rattle.layout.specs.Layout.{SCAN}
use Rattle.answers.specs.declared.Found.{Found}
use Rattle.answers.specs.declared.Search.{Search}
use Rattle.answers.specs.Finding.{find_before, Answered}
use Rattle.answers.specs.Finding.{found_record}

pub record Clear (s es t w : List ℕ) : Type 0 where
  pub silent : (find_before s es t (length w)).number ≡ 0

pub record Prepared (s es w : List ℕ) (nodes : ℕ) (w' : List ℕ) : Type 0 where
  pub told : Told s es (length es) nodes w'
  pub all_slips : members w' (length es) ≡ numbers (slips_of s es)
  pub same : length w' ≡ length w

abbrev pub scan_at : List ℕ → List ℕ → List ℕ → ℕ → List ℕ → Type 0
scan_at s es t i w = Standing s es t (length es) (cell w SCAN 0) w (scan_in w i)

abbrev pub found_at : List ℕ → List ℕ → List ℕ → ℕ → Found
found_at s es t i = found_record (get_or (occurrences (slips_of s es) t) i (O.occurrence 0 0))

pub record Ready (s es t : List ℕ) (i : ℕ) (w : List ℕ) : Type 0 where
  pub scan : scan_at s es t i w
  pub more : i < length (occurrences (slips_of s es) t)

pub record Next (s es t : List ℕ) (i : ℕ) (w w' : List ℕ) (r : Found) : Type 0 where
  pub is : r ≡ found_at s es t i
  pub scan : scan_at s es t (i + 1) w'
  pub same : length w' ≡ length w

pub record Enough (s es t : List ℕ) (count : ℕ) (w : List ℕ) : Type 0 where
  pub upto : count ≤ length (occurrences (slips_of s es) t)
  pub scan : 1 ≤ count → scan_at s es t 0 w

pub record Left (s es t : List ℕ) (n : ℕ) (w w' : List ℕ) : Type 0 where
  pub same : length w' ≡ length w
  pub none : n ≡ 0 → w' ≡ w

pub record CoreSays (s es t w w' : List ℕ) (room : ℕ) (r : Search) : Type 0 where
  pub answered : Answered s es t w w' room r
  pub fits : r.count ≤ room
  pub enough : Enough s es t r.count w'
