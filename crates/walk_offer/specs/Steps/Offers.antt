-- What the functions of one slip of a visit ask and leave.
--   Sized es w d            == the tray is small enough, the work area large enough, and d is a length of slips
--   partner_in right ls m    == whom a slip is joined behind: the first of ls that waits and is not m
--   JoinsMade w js w' m r    == the joins js stand in w', r of them, and in the marks m; nothing else of w has changed
use Rattle.std.specs.Prelude.{◌≡◌, ◌&&◌, not, List, [], ◌∷◌, ◌++◌, ℕ, ◌≤◌, ◌<◌, eqb, length}
use Rattle.words.specs.Lists.{those, head_or}
use Rattle.trays.specs.Limits.{max_slips, max_slip, max_letters, work_need}
use Rattle.trays.specs.Slips.{end_of}
use Rattle.tables.specs.Tables.{Cells, Only}
use Rattle.greedy.specs.Joins.{Join, join}
use Rattle.greedy.specs.Steps.Linked.{put_at}
use Rattle.layout.specs.Layout.{JOINS, all_joins}
use Rattle.layout.specs.Staging.{joins_in}
use Rattle.walk_offer.specs.Steps.Runs.{next_ender, enders_from, mark, waiting_in, Real, ListedFrom}
use Rattle.walk_offer.specs.Steps.Marks.{chain_ends, Marked}
use Rattle.walk_offer.specs.declared.Marks.{Marks}

pub record Sized (es w : List ℕ) (d : ℕ) : Type 0 where
  pub room : work_need ≤ length w
  pub few : length es ≤ max_slips
  pub short : (i : ℕ) → end_of es i ≤ max_letters
  pub some : 1 ≤ d
  pub most : d ≤ max_slip

-- a search along the slips that properly end with a node
pub record Searches (es w : List ℕ) (d : ℕ) (right : List ℕ) (l : ℕ) : Type 0 where
  pub sized : Sized es w d
  pub rights : length right ≡ max_slips
  pub list : ListedFrom es d (next_ender w es d) l

pub record FoundPartner (es w : List ℕ) (d : ℕ) (right : List ℕ) (l r : ℕ) : Type 0 where
  pub rest : enders_from w es d r ≡ waiting_in right (enders_from w es d l)
  pub list : ListedFrom es d (next_ender w es d) r

-- the first of ls that has no right neighbour and is not m, 0 for none
abbrev pub partner_in : List ℕ → List ℕ → ℕ → ℕ
partner_in right ls m = head_or 0 (those (λ l. eqb (mark right l) 0 && not (eqb l m)) ls)

-- what stands first waits, if anything stands there
abbrev pub Waits : List ℕ → List ℕ → Type 0
Waits right ls = waiting_in right ls ≡ ls

pub record Chooses (es w : List ℕ) (d : ℕ) (right : List ℕ) (l m : ℕ) : Type 0 where
  pub search : Searches es w d right l
  pub waits : Waits right (enders_from w es d l)
  pub real : 1 ≤ m

pub record JoinsMade (w : List ℕ) (js : List Join) (w' : List ℕ) (marks : Marks) (r : ℕ) : Type 0 where
  pub joins_are : joins_in w' r ≡ js
  pub marked : Marked js marks
  pub only : Only (Cells JOINS all_joins) w w'

-- one join more in the work area
pub record CanJoin (w : List ℕ) (count l r d : ℕ) : Type 0 where
  pub room : work_need ≤ length w
  pub few : count < max_slips
  pub left_small : l ≤ max_slips
  pub right_small : r ≤ max_slips
  pub overlap_small : d ≤ max_slip

pub record JoinPut (w : List ℕ) (count l r d : ℕ) (w' : List ℕ) (res : ℕ) : Type 0 where
  pub joins_are : joins_in w' res ≡ joins_in w count ++ (join l r d ∷ [])
  pub only : Only (Cells JOINS all_joins) w w'

-- the chain that ends in l and the chain that r begins are one chain
pub record EndsFit (first last : List ℕ) (l r : ℕ) : Type 0 where
  pub firsts : length first ≡ max_slips
  pub lasts : length last ≡ max_slips
  pub left : (1 ≤ l) × (l ≤ max_slips)
  pub right : (1 ≤ r) × (r ≤ max_slips)
  pub begin : (1 ≤ chain_ends first l) × (chain_ends first l ≤ max_slips)
  pub end : (1 ≤ chain_ends last r) × (chain_ends last r ≤ max_slips)

pub record EndsJoined (first last : List ℕ) (l r : ℕ) (first' last' : List ℕ) : Type 0 where
  pub firsts : length first' ≡ max_slips
  pub lasts : length last' ≡ max_slips
  pub first-is : chain_ends first' ≡ put_at (chain_ends first) (chain_ends last r) (chain_ends first l)
  pub last_is : chain_ends last' ≡ put_at (chain_ends last) (chain_ends first l) (chain_ends last r)

-- a join of l and r by d letters
pub record Joinable (w : List ℕ) (count l r d : ℕ) (marks : Marks) : Type 0 where
  pub room : work_need ≤ length w
  pub marked : Marked (joins_in w count) marks
  pub left_real : (1 ≤ l) × (l ≤ max_slips)
  pub right_real : (1 ≤ r) × (r ≤ max_slips)
  pub overlap_small : d ≤ max_slip
  pub left-free : mark marks.right l ≡ 0
  pub right_free : mark marks.left r ≡ 0
  pub no_cycle : l ≡ mark marks.last r → ⊥

-- one slip r of a visit, where l stands first among those that properly end with the node and wait
pub record Offers (es w : List ℕ) (d r l count : ℕ) (marks : Marks) : Type 0 where
  pub search : Searches es w d marks.right l
  pub waits : Waits marks.right (enders_from w es d l)
  pub real : Real es d r
  pub marked : Marked (joins_in w count) marks
