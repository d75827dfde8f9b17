-- The tables of the search for the best order of k places 0, 1, .. k - 1, in one lent slice: what the search asks and gives.
--   pair_cells, group_cells == how many cells the table of pairs has, at the beginning, and the table of groups after it
--   pairs_of w a b   == what is saved where place b is laid after place a; a row for each place, and one for the start, after which nothing is saved
--   Paired w k      == there is room, and no pair saves more than a slip has letters
--   Ordered w k w' r == r is the best order of the places, with 0 past its end
use Rattle.std.specs.Prelude.{◌≡◌, List, ℕ, suc, ◌+◌, ◌*◌, ◌^◌, ◌≤◌, ◌<◌, length, take, get_or, replicate}
use Rattle.words.specs.Lists.{up_from, over}
use Rattle.trays.specs.Limits.{max_slip, max_shortest}
use Rattle.shortest.specs.Steps.Choosing.{choose}

abbrev pub pair_cells : ℕ
pair_cells = suc max_shortest * max_shortest

abbrev pub group_cells : ℕ
group_cells = max_shortest * 2 ^ max_shortest

abbrev pub pairs_of : List ℕ → ℕ → ℕ → ℕ
pairs_of w a b = get_or (take pair_cells w) (max_shortest * a + b) 0

pub record Paired (w : List ℕ) (k : ℕ) : Type 0 where
  pub room : pair_cells + group_cells ≤ length w
  pub few : k ≤ max_shortest
  pub small : (i : ℕ) → i < pair_cells → get_or w i 0 ≤ max_slip

-- The start has the number after the last place.
pub record Ordered (w : List ℕ) (k : ℕ) (w' r : List ℕ) : Type 0 where
  pub size : length w' ≡ length w
  pub order_is : r ≡ over (choose (pairs_of w) k max_shortest (up_from 0 k)) (replicate max_shortest 0)
