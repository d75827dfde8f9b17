-- The steps of the search for the shortest legend: what each asks and leaves.
--   ten_of xs        == ten numbers, those of xs first, then 0
--   outcome_by       == the answer made of the letters needed, the count and the order
--   KeptCopied      == the first k kept members, with 0 behind them
--   Named           == the slips at k places
--   Sought least    == the shortest order of the first k slips xs, with this least overlap
--   OrderSought     == the order is that of a tray that is accepted and has at most ten kept slips
--   Written         == behind that, 8 or the legend
--   Finished        == what is left of an accepted tray, in a work area that is large enough
use Rattle.std.specs.Prelude.{◌≡◌, List, map, ℕ, ◌+◌, ◌^◌, ◌≤◌, ◌<◌, length, get_or, take, replicate}
use Rattle.words.specs.Lists.{over}
use Rattle.words.specs.Steps.Members.{Asc}
use Rattle.trays.specs.Limits.{max_shortest, work_need}
use Rattle.trays.specs.declared.Settings.{Settings}
use Rattle.trays.specs.Slips.{slips_of}
use Rattle.trays.specs.Aside.{counted}
use Rattle.trays.specs.Faults.{first_row, tray_fault, written}
use Rattle.greedy.specs.Composing.{Composing, whole, kept_of}
use Rattle.shortest.specs.Orders.{shortest_for, shortest_order, shortest_legend}
use Rattle.layout.specs.Staging.{kept_in}
use Rattle.answers.specs.declared.Shortest.{Shortest}
use Rattle.answers.specs.Shortest.{shortest_rows, shortest_by}
use Rattle.shortest_groups.specs.Groups.{pair_cells, group_cells}

abbrev pub ten_of : List ℕ → List ℕ
ten_of xs = over xs (replicate max_shortest 0)

abbrev pub outcome_by : ℕ → ℕ → List ℕ → Shortest
outcome_by need k xs = record { number = 0; detail = 0; legend = need; count = k; order = xs }

pub record OutcomeAsks (need k : ℕ) : Type 0 where
  pub need_fits : need < 2 ^ 32
  pub count_fits : k < 2 ^ 32

pub record KeptAsks (w : List ℕ) (k : ℕ) : Type 0 where
  pub few : k ≤ max_shortest
  pub room : work_need ≤ length w

pub record KeptCopied (w : List ℕ) (k : ℕ) (xs : List ℕ) : Type 0 where
  pub ten : length xs ≡ max_shortest
  pub first : take k xs ≡ kept_in w k

pub record NamingAsks (kept places : List ℕ) (k : ℕ) : Type 0 where
  pub few : k ≤ max_shortest
  pub known : k ≤ length kept
  pub listed : k ≤ length places
  pub among : (i : ℕ) → i < k → get_or places i 0 < k

pub record Named (kept places : List ℕ) (k : ℕ) (xs : List ℕ) : Type 0 where
  pub are : xs ≡ ten_of (map (λ a. get_or (take k kept) a 0) (take k places))

pub record SeekAsks (s es xs : List ℕ) (k : ℕ) (w : List ℕ) : Type 0 where
  pub tray : (tray_fault s es).number ≡ 0
  pub few : k ≤ max_shortest
  pub ten : length xs ≡ max_shortest
  pub real : (a : ℕ) → a < k → (1 ≤ get_or xs a 0) × (get_or xs a 0 ≤ length es)
  pub rising : Asc ◌<◌ (take k xs)
  pub room : pair_cells + group_cells ≤ length w

pub record Sought (least : ℕ) (s es xs : List ℕ) (k : ℕ) (w w' r : List ℕ) : Type 0 where
  pub same : length w' ≡ length w
  pub order_is : r ≡ ten_of (shortest_for (counted least) (slips_of s es) (take k xs))

pub record OrderSought (g : Settings) (s es r : List ℕ) (k : ℕ) : Type 0 where
  pub tray : (tray_fault s es).number ≡ 0
  pub few : k ≤ max_shortest
  pub count_is : k ≡ length (kept_of (whole g (slips_of s es)))
  pub order_is : r ≡ ten_of (shortest_order (whole g (slips_of s es)))

-- the rows before place C are silent
pub record Written (c : Composing) (l l' : List ℕ) (r : Shortest) : Type 0 where
  pub answer-is : r ≡ shortest_by (first_row (shortest_rows c (length l))) c
  pub legend_is : l' ≡ written (first_row (shortest_rows c (length l))) (shortest_legend c) l

pub record Finished (c : Composing) (w w' l l' : List ℕ) (r : Shortest) : Type 0 where
  pub same : length w' ≡ length w
  pub outcome : Written c l l' r
