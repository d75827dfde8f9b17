-- The two loops: one row after another.
--   rows-..   == rows g 0, g 1, .. of one size: none, one more, what the table holds then, and which cells have changed
--   named-..  == the joins: what a turn asks, one more, all
--   made-..   == the records of places: the same
-- A row is read from cells below the table into which it is put, so that a turn finds there what was there at the start.
use mathlib.Core.Path.{◌≡◌, refl, sym, ap, subst, ◌∙◌}
use mathlib.Core.List.{List, [], ◌∷◌, ◌++◌, map, append-nil}
use Prim.Native.Nat.{ℕ, ◌+◌, ◌*◌, ◌≤◌, ◌<◌}
use native.Mathlib.Nat.{zero-add}
use native.Mathlib.Numerals.{add-one}
use native.Mathlib.Omega.{arith}
use lib.ListN.{length, get_or}
use Rattle.words.specs.Lists.{each, entry, up_from}
use Rattle.words.proofs.Members.{each_append}
use Rattle.words.proofs.Runs.{length-up_from, up_from_more}
use Rattle.words.proofs.FlatLists.{flat-length}
use Rattle.tables.specs.Tables.{table, Cells, Only}
use Rattle.tables.proofs.Tables.{only-refl, only_wider}
use Rattle.greedy.specs.Joins.{Join, rejoin}
use Rattle.answers.specs.Composing.{join_cells, place_cells, record_cells, join_numbers, flat_joins}
use Rattle.layout.specs.Layout.{JOINS, PLACES, NAMED, all_joins, RECORDS, all_records}
use Rattle.layout.specs.Staging.{join_in}
use Rattle.compose_names.specs.Steps.Naming.{RowPut, named_in, NamesAsk, JoinsNamed}
use Rattle.compose_names.specs.Steps.Naming.{record_in, RecordsAsk, RecordsMade}
use Rattle.compose_names.proofs.Rows.{row_append}

pub rows_none : (base : ℕ) (w : List ℕ) → RowPut base 0 [] w w
unfolding table
rows_none base w = record { row = refl; only = only-refl }

-- a cell below the table is as it was
rows-below : {base : ℕ} {xs w w' : List ℕ} (p : ℕ) → RowPut base 0 xs w w' → p < base → get_or w' p 0 ≡ get_or w p 0
rows-below p f h = f.only.kept p (λ c. omega (arith, c.from))

module _ (base size : ℕ) (g : ℕ → List ℕ) (long : (i : ℕ) → length (g i) ≡ size) (w : List ℕ) (i : ℕ) (w' : List ℕ)
    (f : RowPut base 0 (each g (up_from 0 i)) w w') where
  abbrev rows : List ℕ
  rows = each g (up_from 0 i)

  rows-length : 0 + length rows ≡ size * i
  rows-length = zero-add (length rows) ∙ flat-length size g long (up_from 0 i) ∙ ap (λ (n : ℕ). size * n) (length-up_from 0 i)

  rows_more : (ys w'' : List ℕ) (i' : ℕ) → RowPut base (size * i) ys w' w'' → ys ≡ g i → i' ≡ i + 1 → RowPut base 0 (each g (up_from 0 i')) w w''
  rows_more ys w'' i' r e s =
      let more : each g (up_from 0 i') ≡ rows ++ ys =
      ap (λ (n : ℕ). each g (up_from 0 n)) (s ∙ add-one i) ∙ ap (each g) (up_from_more 0 i) ∙ each_append g (up_from 0 i) ((0 + i) ∷ [])
      ∙ ap (λ (l : List ℕ). rows ++ l) (append-nil (g (0 + i)) ∙ ap g (zero-add i) ∙ sym e) in
      subst (λ (l : List ℕ). RowPut base 0 l w w'') (sym more) (row_append base 0 (size * i) rows ys w w' w'' f r (sym rows-length))

  rows_are : table w' base (size * i) ≡ rows
  unfolding table
  rows_are = rw rows-length at f.row

  rows-only : (all : ℕ) → size * i ≤ all → Only (Cells base all) w w'
  rows-only all h = only_wider f.only (λ p c. record { from = omega (arith, c.from); below = omega (arith, c.below, rows-length) })

-- joins: their numbers are the rows
named_flat : (w N is : List ℕ) → flat_joins (map (rejoin (entry N)) (map (join_in w) is)) ≡ each (named_in w N) is
named_flat w N [] = refl
named_flat w N (i ∷ is) = ap (λ (l : List ℕ). named_in w N i ++ l) (named_flat w N is)

module _ (N : List ℕ) (k : ℕ) (w : List ℕ) (h : NamesAsk w N k) (i : ℕ) (w' : List ℕ) (f : RowPut NAMED 0 (each (named_in w N) (up_from 0 i)) w w') where
  join-same : i < k → join_in w' i ≡ join_in w i
  join-same l =
      rw (
        rows-below (JOINS + join_cells * i) f (omega (arith, h.few)),
        rows-below (JOINS + (join_cells * i + 1)) f (omega (arith, h.few)),
        rows-below (JOINS + (join_cells * i + 2)) f (omega (arith, h.few)),
      )

  pub named_more : i < k → (w'' : List ℕ) (i' : ℕ) → RowPut NAMED (join_cells * i) (named_in w' N i) w' w'' → i' ≡ i + 1
      → RowPut NAMED 0 (each (named_in w N) (up_from 0 i')) w w''
  named_more l w'' i' r s =
      rows_more NAMED join_cells (named_in w N) (λ n. refl) w i w' f (named_in w' N i) w'' i' r
      (ap (λ (j : Join). join_numbers (rejoin (entry N) j)) (join-same l)) s

  pub named_all : i ≤ k → k ≤ i → JoinsNamed N k w w'
  named_all a b =
      let e : i ≡ k = omega arith in
      record {
        joins_are = rw e at (rows_are NAMED join_cells (named_in w N) (λ n. refl) w i w' f) ∙ sym (named_flat w N (up_from 0 k));
        only = rows-only NAMED join_cells (named_in w N) (λ n. refl) w i w' f all_joins (omega (arith, h.few));
      }

-- records of places
module _ (N : List ℕ) (b k : ℕ) (w : List ℕ) (h : RecordsAsk w N k) (i : ℕ) (w' : List ℕ)
    (f : RowPut RECORDS 0 (each (record_in w N b) (up_from 0 i)) w w') where
  record_same : i < k → record_in w' N b i ≡ record_in w N b i
  record_same l =
      rw (
        rows-below (PLACES + place_cells * i) f (omega (arith, h.few)),
        rows-below (PLACES + (place_cells * i + 1)) f (omega (arith, h.few)),
        rows-below (PLACES + (place_cells * i + 2)) f (omega (arith, h.few)),
      )

  pub made_more : i < k → (w'' : List ℕ) (i' : ℕ) → RowPut RECORDS (record_cells * i) (record_in w' N b i) w' w'' → i' ≡ i + 1
      → RowPut RECORDS 0 (each (record_in w N b) (up_from 0 i')) w w''
  made_more l w'' i' r s =
      rows_more RECORDS record_cells (record_in w N b) (λ n. refl) w i w' f (record_in w' N b i) w'' i' r (record_same l) s

  pub made_all : i ≤ k → k ≤ i → RecordsMade N b k w w'
  made_all a c =
      let e : i ≡ k = omega arith in
      record {
        records_are = rw e at (rows_are RECORDS record_cells (record_in w N b) (λ n. refl) w i w' f);
        only = rows-only RECORDS record_cells (record_in w N b) (λ n. refl) w i w' f all_records (omega (arith, h.few));
      }
