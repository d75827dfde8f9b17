-- What the functions of the walk ask and leave.
--   Walkable s es n k c w   == the nodes of the n members are numbered, the k kept ones known, and for each node those that begin with it and
--                              those that properly end with it
--   RowEnds ..              == what it asks to look for the first node of a row that counts; CountedFrom .. == what that look finds
--   Walked m ..             == what the walk leaves: the joins of the plain rule, where the least overlap is m
use Rattle.std.specs.Prelude.{◌≡◌, List, map, ℕ, suc, ◌-◌, ◌≤◌, replicate}
use Rattle.words.specs.Lists.{those, up_from}
use Rattle.trays.specs.Limits.{max_slips, max_slip, max_letters}
use Rattle.trays.specs.Slips.{slips_of}
use Rattle.trays.specs.Aside.{kept, not_stops, counted}
use Rattle.tables.specs.Tables.{Cells, Only}
use Rattle.greedy.specs.Joins.{Join, right_of, plain_for}
use Rattle.greedy.specs.Walk.{walk_from}
use Rattle.matching.specs.Steps.Nodes.{string}
use Rattle.layout.specs.Layout.{LEVEL, STARTS, STARTS_NEXT, ENDS, ENDS_NEXT, JOINS, all_joins}
use Rattle.layout.specs.Tables.{cell, members, StartsIs, EndsIs}
use Rattle.layout.specs.Numbered.{patterns_in, Numbered}
use Rattle.layout.specs.Staging.{kept_in, joins_in, Neighbours}
use Rattle.walk_offer.specs.Steps.Runs.{next_starter, next_ender, ListedFrom}
use Rattle.walk_offer.specs.Steps.Marks.{Marked}
use Rattle.walk_offer.specs.declared.Marks.{Marks}
use Rattle.walk_offer.specs.Steps.Offers.{Sized}
use Rattle.layout.specs.Rows.{nodes_at}

pub record Visits (es w : List ℕ) (d v count : ℕ) (marks : Marks) : Type 0 where
  pub sized : Sized es w d
  pub node : v ≤ max_letters
  pub starts : ListedFrom es d (next_starter w es d) (cell w STARTS v)
  pub ends : ListedFrom es d (next_ender w es d) (cell w ENDS v)
  pub marked : Marked (joins_in w count) marks

pub record Walkable (s es : List ℕ) (n k nodes : ℕ) (w : List ℕ) : Type 0 where
  pub numbered : Numbered s es n nodes w
  pub few_kept : k ≤ max_slips
  pub kept_are : kept_in w k ≡ kept (slips_of s es) (members w n)
  pub starts : StartsIs (slips_of s es) es (members w n) (kept_in w k) (cell w STARTS) (cell w STARTS_NEXT)
  pub ends : EndsIs (slips_of s es) es (members w n) (kept_in w k) (cell w ENDS) (cell w ENDS_NEXT)

-- the visits of the nodes of d letters
pub record RowAsks (s es : List ℕ) (n k nodes : ℕ) (w : List ℕ) (d made : ℕ) (marks : Marks) : Type 0 where
  pub walkable : Walkable s es n k nodes w
  pub some : 1 ≤ d
  pub most : d ≤ max_slip
  pub marked : Marked (joins_in w made) marks

-- the nodes of d letters end before `end`
pub record RowEnds (s es : List ℕ) (n nodes : ℕ) (w : List ℕ) (d end : ℕ) : Type 0 where
  pub numbered : Numbered s es n nodes w
  pub some : 1 ≤ d
  pub most : d ≤ max_slip
  pub upto : end ≡ cell w LEVEL (suc d)

-- of the nodes of d letters, if these are enough, those count that stand from v on
pub record CountedFrom (s es : List ℕ) (n : ℕ) (w : List ℕ) (d end v : ℕ) : Type 0 where
  pub from : cell w LEVEL d ≤ v
  pub those_are : those not_stops (nodes_at (patterns_in s es n w) (cell w LEVEL) d) ≡ map (string (patterns_in s es n w)) (up_from v (end - v))

abbrev pub row_walked : List ℕ → List ℕ → ℕ → ℕ → List ℕ → ℕ → ℕ → List Join
row_walked s es n k w d made =
    walk_from (slips_of s es) (kept_in w k) (those not_stops (nodes_at (patterns_in s es n w) (cell w LEVEL) d)) (joins_in w made)

-- Rules: two lists of marks, each starting as none; so the overlaps. The lists of chain ends may hold anything.
pub record Fresh (marks : Marks) : Type 0 where
  pub left_none : marks.left ≡ replicate max_slips 0
  pub right_none : marks.right ≡ replicate max_slips 0
  pub over_none : marks.overs ≡ replicate max_slips 0

pub record Walked (m : ℕ) (s es : List ℕ) (k : ℕ) (w w' : List ℕ) (marks : Marks) (r : ℕ) : Type 0 where
  pub joins_are : joins_in w' r ≡ plain_for (counted m) (slips_of s es) (kept_in w k)
  pub neighbours : Neighbours (joins_in w' r) marks.left marks.right marks.overs
  pub small : (i : ℕ) → right_of i (joins_in w' r) ≤ max_slips
  pub few : r ≤ k
  pub only : Only (Cells JOINS all_joins) w w'
