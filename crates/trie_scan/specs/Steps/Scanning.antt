-- A text t read by the automaton of all slips of a tray with letters s and ends es, which stands in the work area w: its n members are all
-- slips, and its nodes have the numbers up to nodes.
--   SCAN                      == where the cells stand that keep a scan: the count of nodes, then letters read in two cells, state, node, slip
--   occurs_from ss t e         == the occurrences that end behind the first e letters
--   Able .. t .. w            == the automaton of all slips and its tables stand, and the text is no longer than it may be
--   TextCountsAre s es t r        == r has the moves and the number of occurrences of the whole text
--   Reporting .. node slip xs == slip is a member of node's letters, and xs are: slip, the others behind it, then what ends the output link of node
--   Pending .. node slip xs   == the same where slip is not 0; where it is, xs is empty
--   Standing .. x             == the scan x stands before occurrence x .done: it has read x.read letters, its state is x.state, and
--                                x.node and x.slip tell what is still to be reported here
--   Ahead .. x                == and there is such an occurrence
--   scan_in w i                == the scan that w keeps, before occurrence i
use Rattle.std.specs.Prelude.{◌≡◌, List, [], ◌∷◌, ◌++◌, map, ℕ, suc, ◌+◌, ◌-◌, ◌*◌, ◌≤◌, ◌<◌, length, take, drop}
use Rattle.words.specs.Lists.{each, up_from}
use Rattle.words.specs.Steps.Members.{In}
use Rattle.trays.specs.Limits.{max_text}
use Rattle.trays.specs.Slips.{slips_of, numbers}
use Rattle.matching.specs.Moves.{longest_ending, moves}
use Rattle.matching.specs.Steps.Nodes.{string, IsNode, Num}
use Rattle.matching.specs.Occurrences.{Occurrence, occurrence, ending_at, occurrences}
use Rattle.matching.specs.Occurrences.{ending_of}
use Rattle.layout.specs.Layout.{TWIN, OUT, SCAN}
use Rattle.layout.specs.Tables.{cell, members, patterns, Threaded}
use Rattle.layout.specs.Numbered.{patterns_in, SameBelow}
use Rattle.trie_outputs.specs.Steps.Outputs.{Told}
use Rattle.trie_scan.specs.declared.TextCounts.{TextCounts}
use Rattle.trie_scan.specs.declared.Report.{Report}
use Rattle.trie_scan.specs.declared.Scan.{Scan}

abbrev pub occurs_from : List (List ℕ) → List ℕ → ℕ → List Occurrence
occurs_from ss t e = each (λ p. map (occurrence p) (ending_at ss (take p t))) (up_from (suc e) (length t - e))

pub record Able (s es t : List ℕ) (n nodes : ℕ) (w : List ℕ) : Type 0 where
  pub told : Told s es n nodes w
  pub all_slips : members w n ≡ numbers (slips_of s es)
  pub short : length t ≤ max_text

pub record TextCountsAre (s es t : List ℕ) (r : TextCounts) : Type 0 where
  pub moves_are : r.moves ≡ moves (slips_of s es) t
  pub found_are : r.found ≡ length (occurrences (slips_of s es) t)

-- what is still to be reported at one place of the text
pub record Reporting (ss : List (List ℕ)) (M w : List ℕ) (node slip : ℕ) (xs : List ℕ) : Type 0 where
  pub others : List ℕ
  pub is_node : Num (patterns ss M) node
  pub threaded : Threaded (cell w TWIN) (cell w TWIN slip) others
  pub among : (i : ℕ) → In i (slip ∷ others) → In i M
  pub list_is : xs ≡ slip ∷ (others ++ ending_of ss M (string (patterns ss M) (cell w OUT node)))

pub record Pending (ss : List (List ℕ)) (M w : List ℕ) (node slip : ℕ) (xs : List ℕ) : Type 0 where
  pub small : node < 65536
  pub none : slip ≡ 0 → xs ≡ []
  pub some : (slip ≡ 0 → ⊥) → Reporting ss M w node slip xs

-- r tells what ends the string of node v
abbrev pub Reports : List ℕ → List ℕ → ℕ → List ℕ → ℕ → Report → Type 0
Reports s es n w v r =
    Pending (slips_of s es) (members w n) w r.node r.slip (ending_of (slips_of s es) (members w n) (string (patterns_in s es n w) v))

pub record AtNode (s es : List ℕ) (n nodes : ℕ) (w : List ℕ) (v : ℕ) : Type 0 where
  pub told : Told s es n nodes w
  pub node : v ≤ nodes

-- scans
pub record Standing (s es t : List ℕ) (n nodes : ℕ) (w : List ℕ) (x : Scan) : Type 0 where
  pub able : Able s es t n nodes w
  pub upto : x.read ≤ length t
  pub state_is : IsNode (patterns_in s es n w) x.state (longest_ending (take x.read t) (patterns_in s es n w))
  pub rest : List ℕ
  pub pending : Pending (slips_of s es) (members w n) w x.node x.slip rest
  pub left : drop x.done (occurrences (slips_of s es) t) ≡ map (occurrence x.read) rest ++ occurs_from (slips_of s es) t x.read

pub record Ahead (s es t : List ℕ) (n nodes : ℕ) (w : List ℕ) (x : Scan) : Type 0 where
  pub standing : Standing s es t n nodes w x
  pub more : x.done < length (occurrences (slips_of s es) t)

-- one letter more
pub record Unread (s es t : List ℕ) (n nodes : ℕ) (w : List ℕ) (x : Scan) : Type 0 where
  pub standing : Standing s es t n nodes w x
  pub none : x.slip ≡ 0
  pub more : x.read < length t

pub record ReadOn (s es t : List ℕ) (n nodes : ℕ) (w : List ℕ) (x y : Scan) : Type 0 where
  pub standing : Standing s es t n nodes w y
  pub done : y.done ≡ x.done
  pub read : y.read ≡ x.read + 1

-- letters read until there is something to report
pub record Reached (s es t : List ℕ) (n nodes : ℕ) (w : List ℕ) (x y : Scan) : Type 0 where
  pub standing : Standing s es t n nodes w y
  pub done : y.done ≡ x.done
  pub some : y.slip ≡ 0 → ⊥

-- something is to be reported, and is
pub record Reportable (s es t : List ℕ) (n nodes : ℕ) (w : List ℕ) (x : Scan) : Type 0 where
  pub standing : Standing s es t n nodes w x
  pub some : x.slip ≡ 0 → ⊥

pub record Passed (s es t : List ℕ) (n nodes : ℕ) (w : List ℕ) (x y : Scan) : Type 0 where
  pub standing : Standing s es t n nodes w y
  pub done : y.done ≡ x.done + 1

-- a scan kept in the work area
abbrev pub scan_in : List ℕ → ℕ → Scan
scan_in w i =
    record {
      done = i;
      read = 65536 * cell w SCAN 1 + cell w SCAN 2;
      state = cell w SCAN 3;
      node = cell w SCAN 4;
      slip = cell w SCAN 5;
    }

pub record CanKeep (w : List ℕ) (x : Scan) : Type 0 where
  pub room : SCAN + 6 ≤ length w
  pub read : x.read < 65536 * 65536
  pub state : x.state < 65536
  pub node : x.node < 65536
  pub slip : x.slip < 65536

pub record Loadable (w : List ℕ) : Type 0 where
  pub room : SCAN + 6 ≤ length w

pub record Keeps (w : List ℕ) (x : Scan) (w' : List ℕ) : Type 0 where
  pub scan-is : scan_in w' x.done ≡ x
  pub below : SameBelow (SCAN + 1) w w'

-- the scan that has read nothing
abbrev pub fresh : Scan
fresh = record { done = 0; read = 0; state = 0; node = 0; slip = 0 }

pub record ScanStarted (w : List ℕ) (nodes : ℕ) (w' : List ℕ) : Type 0 where
  pub nodes_are : cell w' SCAN 0 ≡ nodes
  pub scan-is : scan_in w' 0 ≡ fresh
  pub below : SameBelow SCAN w w'
