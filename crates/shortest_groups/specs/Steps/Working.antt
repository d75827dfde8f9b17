-- The table of groups, filled group by group: first the groups of all k places, then those of fewer and fewer.
--   Right w t R        == t says of each member of R what is saved behind it by the other members
--   Group w k T g      == T says so of each place of the group g: what is saved behind it by the places that are not in g
--   Worked w k T n g   == so for all groups of more than n places, and for those of n places that are below g
--   Begun w k n g      == there is room, and the table of groups has come so far
--   Filling w k n g w' == w' has come so far, with the pairs of w
--   Ready w k g        == what the cells of the group g are worked out from is there
--   Stored w k g a w'  == in w' the cell of place a is filled, if a is in g, and all else is as in w
--   Storing w k g a w' == so are the cells of the first a places
--   Reading w k i g a r == the first i places of the best order stand in r, they are the group g, and the i-th of them is a
use Rattle.std.specs.Prelude.{◌≡◌, ◌⊎◌, List, ℕ, ◌+◌, ◌*◌, ◌^◌, ◌≤◌, ◌<◌, length, take, drop, replicate}
use Rattle.std.specs.Int.Count.{ones}
use Rattle.words.specs.Lists.{up_from, over}
use Rattle.words.specs.Steps.Members.{In}
use Rattle.trays.specs.Limits.{max_shortest}
use Rattle.tables.specs.Tables.{Cells, Only}
use Rattle.shortest.specs.Orders.{without}
use Rattle.shortest.specs.Steps.Choosing.{choose, most}
use Rattle.shortest_groups.specs.Groups.{pair_cells, pairs_of, Paired}
use Rattle.shortest_groups.specs.Steps.Marks.{bit, rest_of}
use Rattle.shortest_groups.specs.Steps.NextPlace.{cell_of}

abbrev pub Right : (ℕ → ℕ → ℕ) → (ℕ → ℕ) → List ℕ → Type 0
Right w t R = (j : ℕ) → In j R → t j ≡ most w (length (without j R)) j (without j R)

abbrev pub Group : (ℕ → ℕ → ℕ) → ℕ → (ℕ → ℕ → ℕ) → ℕ → Type 0
Group w k T g = (a : ℕ) → a < k → bit g a ≡ 1 → T g a ≡ most w (length (rest_of g k)) a (rest_of g k)

abbrev pub Worked : (ℕ → ℕ → ℕ) → ℕ → (ℕ → ℕ → ℕ) → ℕ → ℕ → Type 0
Worked w k T n g = (h : ℕ) → h < 2 ^ k → (n < ones h) ⊎ ((ones h ≡ n) × (h < g)) → Group w k T h

pub record Begun (w : List ℕ) (k n g : ℕ) : Type 0 where
  pub paired : Paired w k
  pub worked : Worked (pairs_of w) k (cell_of w) n g

pub record Filling (w : List ℕ) (k n g : ℕ) (w' : List ℕ) : Type 0 where
  pub size : length w' ≡ length w
  pub pairs : take pair_cells w' ≡ take pair_cells w
  pub begun : Begun w' k n g

pub record Ready (w : List ℕ) (k g : ℕ) : Type 0 where
  pub paired : Paired w k
  pub below : g < 2 ^ k
  pub behind : Right (pairs_of w) (λ j. cell_of w (g + 2 ^ j) j) (rest_of g k)

pub record Stored (w : List ℕ) (k g a : ℕ) (w' : List ℕ) : Type 0 where
  pub only : Only (λ p. p ≡ pair_cells + (max_shortest * g + a)) w w'
  pub here : bit g a ≡ 1 → cell_of w' g a ≡ most (pairs_of w) (length (rest_of g k)) a (rest_of g k)

pub record Storing (w : List ℕ) (k g a : ℕ) (w' : List ℕ) : Type 0 where
  pub only : Only (Cells (pair_cells + max_shortest * g) max_shortest) w w'
  pub ready : Ready w' k g
  pub done : (b : ℕ) → b < a → bit g b ≡ 1 → cell_of w' g b ≡ most (pairs_of w') (length (rest_of g k)) b (rest_of g k)

pub record Reading (w : List ℕ) (k i g a : ℕ) (r : List ℕ) : Type 0 where
  pub group : g < 2 ^ k
  pub row : a ≤ max_shortest
  pub left : length (rest_of g k) + i ≡ k
  pub behind : drop i (choose (pairs_of w) k max_shortest (up_from 0 k)) ≡ choose (pairs_of w) (length (rest_of g k)) a (rest_of g k)
  pub order_is : r ≡ over (take i (choose (pairs_of w) k max_shortest (up_from 0 k))) (replicate max_shortest 0)
