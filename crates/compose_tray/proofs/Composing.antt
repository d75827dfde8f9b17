-- What `compose_tray` may store, and that storing it is the promise.
--   joins_can, places_can == what the two storing functions ask
--   composing_says        == the lists, written over by what is staged, are those of `ComposeSays`
-- A refusal counts nothing, so nothing is written; otherwise the counts are those of the tray and the records are made (Records.antt).
use mathlib.Core.Path.{◌≡◌, sym, ◌∙◌, ap}
use mathlib.Core.List.{List, map}
use Prim.Native.Nat.{ℕ, ◌-◌, ◌*◌, ◌≤◌}
use native.Mathlib.Omega.{arith}
use lib.ListN.{length}
use Rattle.words.specs.Lists.{over}
use Rattle.trays.specs.declared.Refusal.{Refusal}
use Rattle.trays.specs.declared.Settings.{Settings}
use Rattle.trays.specs.Slips.{slips_of}
use Rattle.trays.specs.Faults.{written}
use Rattle.trays.specs.Sides.{of_side}
use Rattle.trays.proofs.Rows.{written_all, written_none}
use Rattle.trays.proofs.SidedTrays.{side_small}
use Rattle.greedy.specs.Composing.{sided, joins_of}
use Rattle.tables.specs.Tables.{table}
use Rattle.layout.specs.Layout.{NAMED, RECORDS}
use Rattle.answers.specs.declared.Composed.{Composed}
use Rattle.answers.specs.Composing.{join_cells, flat_joins, record_cells, flat_records}
use Rattle.compose_side.proofs.StagedTells.{Accepts, Refuses, staged_tells, staged_room}
use Rattle.store_loops.specs.Firsts.{firsts}
use Rattle.answers.specs.declared.Join.{Join}
use Rattle.answers.specs.declared.Place.{Place}
use Rattle.compose_store.specs.Steps.Made.{join_at, place_at, SidesFit}
use Rattle.answers.specs.Records.{fault_of, ComposeSays}
use Rattle.answers.specs.Records.{join_record, place_record}
use Rattle.compose_side.specs.Steps.Sides.{Staged}
use Rattle.compose_store.proofs.Records.{joins_made, sides_fit, places_made}

module _ (g : Settings) (s es cs w w' l l' : List ℕ) (js : List Join) (ps : List Place) (r : Composed)
    (c : Staged g s es cs w w' l l' (length js) (length ps) r) where
  abbrev ss : List (List ℕ)
  ss = slips_of s es

  abbrev M : List ℕ
  M = of_side cs g.side

  abbrev f : Refusal
  f = fault_of g s es cs w l js ps

  -- nothing turns composing back, or something does
  by_answer : {P : Type 0} → (Accepts g s es cs w (length l) (length js) (length ps) r → P) →
      (Refuses g s es cs w (length l) (length js) (length ps) r → P) → P
  by_answer good bad = staged_tells g s es cs w (length l) (length js) (length ps) r c.answer-is good bad

  module _ (a : Accepts g s es cs w (length l) (length js) (length ps) r) where
    all_joins_lem : r.joins ≡ length (joins_of (sided g cs ss))
    all_joins_lem = ap (λ (x : Composed). x.joins) a.answer-is

    all_places_lem : r.slips ≡ length M
    all_places_lem = ap (λ (x : Composed). x.slips) a.answer-is

    joins_staged : table w' NAMED (join_cells * length (joins_of (sided g cs ss))) ≡ flat_joins (joins_of (sided g cs ss))
    joins_staged = ap (λ (n : ℕ). table w' NAMED (join_cells * n)) (sym all_joins_lem) ∙ c.joins_are (ap (λ (x : Composed). x.number) a.answer-is)

    records_staged : table w' RECORDS (record_cells * length M) ≡ flat_records (sided g cs ss) g.side
    records_staged =
        ap (λ (n : ℕ). table w' RECORDS (record_cells * n)) (sym all_places_lem) ∙ c.records_are (ap (λ (x : Composed). x.number) a.answer-is)

  module _ (a : Refuses g s es cs w (length l) (length js) (length ps) r) where
    no_joins : r.joins ≡ 0
    no_joins = ap (λ (x : Composed). x.joins) a.answer-is

    no_places : r.slips ≡ 0
    no_places = ap (λ (x : Composed). x.slips) a.answer-is

  pub joins_can : (r.joins ≤ length js) × (join_cells * r.joins ≤ length w' - NAMED)
  joins_can =
      by_answer
      (λ a. (
        omega (arith, a.joins_fit),
        omega (arith, staged_room g s es cs w w' l l' (length js) (length ps) r c a),
      ))
      (λ a. let e = no_joins a in (omega arith, omega arith))

  pub places_can : (r.slips ≤ length ps) × ((record_cells * r.slips ≤ length w' - RECORDS) × SidesFit w' r.slips)
  places_can =
      by_answer
      (λ a. (
        omega (arith, a.places_fit),
        (
          omega (arith, a.few_slips, a.room, c.work_is.same),
          rw (all_places_lem a) (sides_fit w' (sided g cs ss) g.side (records_staged a) (side_small g.side a.side)),
        ),
      ))
      (λ a. let e = no_places a in (omega arith, (omega arith, λ i h. absurd (omega arith))))

  joins_stored : over (firsts (join_at w') r.joins) js ≡ written f (map join_record (joins_of (sided g cs ss))) js
  joins_stored =
      by_answer
      (λ a. ap (λ (n : ℕ). over (firsts (join_at w') n) js) (all_joins_lem a)
      ∙ ap (λ (xs : List Join). over xs js) (joins_made w' (joins_of (sided g cs ss)) (joins_staged a))
      ∙ sym (written_all f (map join_record (joins_of (sided g cs ss))) js a.silent))
      (λ a. ap (λ (n : ℕ). over (firsts (join_at w') n) js) (no_joins a)
      ∙ sym (written_none f (map join_record (joins_of (sided g cs ss))) js (omega (arith, a.speaks))))

  places_stored : over (firsts (place_at w') r.slips) ps ≡ written f (map (place_record (sided g cs ss) g.side) M) ps
  places_stored =
      by_answer
      (λ a. ap (λ (n : ℕ). over (firsts (place_at w') n) ps) (all_places_lem a)
      ∙ ap (λ (xs : List Place). over xs ps) (places_made w' (sided g cs ss) g.side (records_staged a))
      ∙ sym (written_all f (map (place_record (sided g cs ss) g.side) M) ps a.silent))
      (λ a. ap (λ (n : ℕ). over (firsts (place_at w') n) ps) (no_places a)
      ∙ sym (written_none f (map (place_record (sided g cs ss) g.side) M) ps (omega (arith, a.speaks))))

  pub composing_says : (js' : List Join) (ps' : List Place) → js' ≡ over (firsts (join_at w') r.joins) js →
      ps' ≡ over (firsts (place_at w') r.slips) ps → ComposeSays g s es cs w w' l l' js js' ps ps' r
  composing_says js' ps' a b =
      record {
        answer-is = c.answer-is;
        legend_is = c.legend_is;
        joins_are = a ∙ joins_stored;
        places_are = b ∙ places_stored;
        work_is = c.work_is;
      }
