-- What stands in a table that is staged as a list of numbers.
--   cell_in     == a cell of the table is a number of the list
--   joins_read  == where joins are staged, they are read again
--   place_read  == where the places of all slips are staged, the numbers of a slip's place are read again
use mathlib.Core.Path.{◌≡◌, refl, sym, ◌∙◌, ap}
use mathlib.Core.List.{List}
use Prim.Native.Nat.{ℕ, suc, ◌+◌, ◌*◌, ◌<◌}
use native.Mathlib.Nat.{zero-add}
use native.Mathlib.Omega.{arith}
use lib.ListN.{length, get_or}
use Rattle.words.proofs.Runs.{map_places}
use Rattle.tables.specs.Tables.{table}
use Rattle.tables.proofs.Tables.{table_at}
use Rattle.greedy.specs.Joins.{Join, join}
use Rattle.greedy.specs.Composing.{Composing}
use Rattle.answers.specs.Composing.{join_cells, join_numbers, flat_joins, place_cells, place_numbers, flat_places}
use Rattle.answers.proofs.FlatLists.{joins_at, places_at}
use Rattle.layout.specs.Layout.{JOINS, PLACES}
use Rattle.layout.specs.Tables.{cell}
use Rattle.layout.specs.Staging.{join_in, joins_in}

pub cell_in : (w : List ℕ) (base n : ℕ) (xs : List ℕ) → table w base n ≡ xs → (k : ℕ) → k < n → cell w base k ≡ get_or xs k 0
cell_in w base n xs e k h = sym (table_at w base n k h) ∙ ap (λ (l : List ℕ). get_or l k 0) e

-- joins are equal where their fields are
join_by : (a b c : ℕ) (x : Join) → a ≡ x.left → b ≡ x.right → c ≡ x.overlap → join a b c ≡ x
join_by a b c x p q r = rw (p, q, r)

pub joins_read : (w : List ℕ) (js : List Join) → table w JOINS (join_cells * length js) ≡ flat_joins js → joins_in w (length js) ≡ js
joins_read w js e = map_places (join 0 0 0) (join_in w) 0 js (λ i h. ap (join_in w) (zero-add i) ∙ one i h)
  where
    one : (i : ℕ) → i < length js → join_in w i ≡ get_or js i (join 0 0 0)
    one i h =
        let is : (j at : ℕ) → j < join_cells → at ≡ join_cells * i + j → cell w JOINS at ≡ get_or (join_numbers (get_or js i (join 0 0 0))) j 0 =
        λ j at l q. cell_in w JOINS (join_cells * length js) (flat_joins js) e at (omega arith) ∙ joins_at js i j at h l q in
        join_by _ _ _ (get_or js i (join 0 0 0)) (is 0 (join_cells * i) (omega arith) (omega arith)) (is 1 (join_cells * i + 1) (omega arith) refl)
        (is 2 (join_cells * i + 2) (omega arith) refl)

pub place_read : (w : List ℕ) (c : Composing) → table w PLACES (place_cells * length c.slips) ≡ flat_places c
    → (i : ℕ) → i < length c.slips → (j at : ℕ) → j < place_cells → at ≡ place_cells * i + j → cell w PLACES at ≡ get_or (place_numbers c (suc i)) j 0
place_read w c e i h j at l q = cell_in w PLACES (place_cells * length c.slips) (flat_places c) e at (omega arith) ∙ places_at c i j at h l q
