-- The records made of the staged numbers are those of the tray.
--   joins_made   == where the joins js are staged, their records are made
--   places_made  == where the records of all members are staged, they are made; sides_fit == and their sides are bytes
-- A staged table is the list of the numbers, so that each cell is a number of the list; records are equal where their fields are.
use mathlib.Core.Path.{◌≡◌, refl, sym, ◌∙◌, ap}
use mathlib.Core.Bool.{Bool, true, false, cond, not}
use mathlib.Core.List.{List, map}
use Prim.Native.Nat.{ℕ, ◌+◌, ◌*◌, ◌<◌}
use native.Mathlib.Omega.{arith}
use lib.Dec.{eqb}
use lib.ListN.{length, get_or, length-map, get_or-map}
use Rattle.trays.specs.Aside.{is_aside}
use Rattle.greedy.specs.Joins as G
use Rattle.tables.specs.Tables.{table}
use Rattle.layout.specs.Layout.{NAMED, RECORDS}
use Rattle.layout.specs.Tables.{cell}
use Rattle.layout.proofs.Staged.{cell_in}
use Rattle.greedy.specs.Composing.{Composing}
use Rattle.answers.specs.Composing.{join_cells, join_numbers, flat_joins, record_cells, record_numbers, flat_records}
use Rattle.answers.proofs.FlatLists.{joins_at, records_at}
use Rattle.store_loops.specs.Firsts.{firsts}
use Rattle.store_loops.proofs.Firsts.{firsts_are}
use Rattle.answers.specs.declared.Join.{Join}
use Rattle.answers.specs.declared.Place.{Place}
use Rattle.compose_store.specs.Steps.Made.{join_at, place_at, SidesFit}
use Rattle.answers.specs.Records.{join_record, place_record}

-- records are equal where their fields are
join_by : (a b c : ℕ) (x : Join) → a ≡ x.left → b ≡ x.right → c ≡ x.overlap → record { left = a; right = b; overlap = c } ≡ x
join_by a b c x p q r = rw (p, q, r)

place-by : (a b : ℕ) (c : Bool) (d e : ℕ) (x : Place) → a ≡ x.slip → b ≡ x.place → c ≡ x.kept → d ≡ x.compared → e ≡ x.side →
    record { slip = a; place = b; kept = c; compared = d; side = e } ≡ x
place-by a b c d e x p q r s t = rw (p, q, r, s, t)

-- the joins
abbrev none : Join
none = record { left = 0; right = 0; overlap = 0 }

module _ (w : List ℕ) (js : List G.Join) (e : table w NAMED (join_cells * length js) ≡ flat_joins js) where
  join_made : (i : ℕ) → i < length js → join_at w i ≡ get_or (map join_record js) i none
  join_made i h =
      let x = join_record (get_or js i (G.join 0 0 0)) in
      let is : (j at : ℕ) → j < join_cells → at ≡ join_cells * i + j → cell w NAMED at ≡ get_or (join_numbers (get_or js i (G.join 0 0 0))) j 0 =
      λ j at l q. cell_in w NAMED (join_cells * length js) (flat_joins js) e at (omega arith) ∙ joins_at js i j at h l q in
      join_by _ _ _ x (is 0 (join_cells * i) (omega arith) (omega arith)) (is 1 (join_cells * i + 1) (omega arith) refl)
      (is 2 (join_cells * i + 2) (omega arith) refl)
      ∙ sym (get_or-map join_record js i (G.join 0 0 0))

  pub joins_made : firsts (join_at w) (length js) ≡ map join_record js
  joins_made =
      ap (firsts (join_at w)) (sym (length-map js join_record))
      ∙ firsts_are (join_at w) none (map join_record js) (λ i h. join_made i (omega (arith, length-map js join_record)))

-- the records
mark-kept : (b : Bool) → eqb (cond b 0 1) 1 ≡ not b
mark-kept true = refl
mark-kept false = refl

module _ (w : List ℕ) (c : Composing) (b : ℕ) (e : table w RECORDS (record_cells * length c.members) ≡ flat_records c b) where
  abbrev M : List ℕ
  M = c.members

  record_cell : (i : ℕ) → i < length M → (j at : ℕ) → j < record_cells → at ≡ record_cells * i + j
      → cell w RECORDS at ≡ get_or (record_numbers c b (get_or M i 0)) j 0
  record_cell i h j at l q = cell_in w RECORDS (record_cells * length M) (flat_records c b) e at (omega arith) ∙ records_at c b i j at h l q

  pub sides_fit : b < 256 → SidesFit w (length M)
  sides_fit small i h = rw (record_cell i h 4 (record_cells * i + 4) (omega arith) refl) small

  place_made : (i : ℕ) → i < length M → place_at w i ≡ place_record c b (get_or M i 0)
  place_made i h =
      let is = record_cell i h in
      place-by _ _ _ _ _ (place_record c b (get_or M i 0)) (is 0 (record_cells * i) (omega arith) (omega arith)) (is 1 (record_cells * i + 1) (omega arith) refl)
      (ap (λ (m : ℕ). eqb m 1) (is 2 (record_cells * i + 2) (omega arith) refl) ∙ mark-kept (is_aside c.slips M (get_or M i 0)))
      (is 3 (record_cells * i + 3) (omega arith) refl) (is 4 (record_cells * i + 4) (omega arith) refl)

  pub places_made : firsts (place_at w) (length M) ≡ map (place_record c b) M
  places_made =
      ap (firsts (place_at w)) (sym (length-map M (place_record c b)))
      ∙ firsts_are (place_at w) (place_record c b 0) (map (place_record c b) M)
      (λ i h. place_made i (omega (arith, length-map M (place_record c b))) ∙ sym (get_or-map (place_record c b) M i 0))
