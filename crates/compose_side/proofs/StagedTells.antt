-- What a staged answer tells a caller that hands joins and records on.
--   Accepts  == nothing is refused: the joins and records stand in the work area, and the caller's lists take them
--   Refuses  == something is: there is nothing to hand on
--   staged_tells == one of the two
use mathlib.Core.Path.{◌≡◌, refl, sym, ◌∙◌, ap}
use mathlib.Core.Bool.{true, ◌||◌}
use mathlib.Core.List.{List, [], ◌∷◌}
use Prim.Native.Nat.{ℕ, zero, suc, ◌+◌, ◌*◌, ◌≤◌}
use borrow.Author.Tests.{ltb-false, leb-true, leb-false}
use native.Mathlib.Omega.{arith}
use lib.Dec.{ltb, leb}
use lib.ListN.{length, length-drop, drop}
use lib.Seq.{take_all}
use Rattle.words.proofs.Tests.{by_test, neither}
use Rattle.tables.specs.Tables.{table}
use Rattle.trays.specs.declared.Refusal.{Refusal}
use Rattle.trays.specs.declared.Settings.{Settings}
use Rattle.trays.specs.Limits.{max_slips, work_need}
use Rattle.trays.specs.Slips.{slips_of}
use Rattle.trays.specs.Faults.{first_row}
use Rattle.trays.specs.Sides.{is_side, of_side, sided_rows, sided_fault, AcceptedSides}
use Rattle.trays.proofs.Rows.{both_silent, rows_append}
use Rattle.trays.proofs.Accepted.{rows_silent, row_silent}
use Rattle.trays.proofs.SidedTrays.{sided_tells}
use Rattle.greedy.specs.Joins.{Join}
use Rattle.greedy.specs.Composing.{sided, joins_of, legend_of}
use Rattle.layout.specs.Layout.{NAMED}
use Rattle.tray_cut.proofs.SideCut.{side_few}
use Rattle.answers.specs.WorkArea.{work_row}
use Rattle.answers.specs.declared.Composed.{Composed}
use Rattle.answers.specs.Composing.{room_rows, compose_fault, composed_of, outcome_of, refused_by, join_cells, flat_joins}
use Rattle.compose_side.specs.Steps.Sides.{Staged}

pub record Accepts (g : Settings) (s es cs w : List ℕ) (l j p : ℕ) (r : Composed) : Type 0 where
  pub silent : (compose_fault g s es cs (length w) l j p).number ≡ 0
  pub accepted : AcceptedSides s es cs
  pub side : is_side g.side ≡ true
  pub room : work_need ≤ length w
  pub answer-is : r ≡ outcome_of (sided g cs (slips_of s es))
  pub legend_fits : r.legend ≤ l
  pub joins_fit : r.joins ≤ j
  pub places_fit : r.slips ≤ p
  pub few_slips : r.slips ≤ max_slips

pub record Refuses (g : Settings) (s es cs w : List ℕ) (l j p : ℕ) (r : Composed) : Type 0 where
  pub row_above : ℕ
  pub speaks : (compose_fault g s es cs (length w) l j p).number ≡ suc row_above
  pub answer-is : r ≡ refused_by (compose_fault g s es cs (length w) l j p)

flat-length : (js : List Join) → length (flat_joins js) ≡ join_cells * length js
flat-length [] = refl
flat-length (j ∷ js) = omega (arith, flat-length js)

module _ (g : Settings) (s es cs w : List ℕ) (l j p : ℕ) (r : Composed) where
  abbrev ss : List (List ℕ)
  ss = slips_of s es

  abbrev f : Refusal
  f = compose_fault g s es cs (length w) l j p

  abbrev need : ℕ
  need = length (legend_of (sided g cs ss))

  abbrev joins : ℕ
  joins = length (joins_of (sided g cs ss))

  abbrev members : List ℕ
  members = of_side cs g.side

  accepts : f.number ≡ 0 → r ≡ outcome_of (sided g cs ss) → Accepts g s es cs w l j p r
  unfolding compose_fault sided_fault
  accepts h e =
      let last = work_row (length w) ∷ room_rows (sided g cs ss) l j p in
      let before = sided_rows g.least g.side s es cs in
      let b = both_silent (first_row before) (first_row last) (ap (λ (f : Refusal). f.number) (sym (rows_append before last)) ∙ h) in
      let known = sided_tells g.least g.side s es cs b.0 in
      let rows = rows_silent last b.1 in
      let lists = neither (ltb j joins) (ltb p (length members)) (row_silent 8 (ltb j joins || ltb p (length members)) joins rows.1.1.0) in
      record {
        silent = h;
        accepted = known.accepted;
        side = known.side;
        room = ltb-false (length w) work_need (row_silent 6 (ltb (length w) work_need) 0 rows.0);
        answer-is = e;
        legend_fits = rw e (ltb-false l need (row_silent 7 (ltb l need) need rows.1.0));
        joins_fit = rw e (ltb-false j joins lists.0);
        places_fit = rw e (ltb-false p (length members) lists.1);
        few_slips = rw e (side_few s es cs known.accepted g.side);
      }

  pub staged_tells : {P : Type 0} → r ≡ composed_of g s es cs (length w) l j p → (Accepts g s es cs w l j p r → P) → (Refuses g s es cs w l j p r → P) → P
  unfolding composed_of
  staged_tells {P} q good bad = go f.number refl
    where
      go : (n : ℕ) → f.number ≡ n → P
      go zero h = good (accepts h (q ∙ rw (h, composed_of)))
      go (suc n) h = bad (record {
        row_above = n;
        speaks = h;
        answer-is = q
            ∙ ap {B = Composed} (λ (m : ℕ). elim m [ zero ↦ outcome_of (sided g cs ss) | suc k ↦ refused_by f ]) h;
      })

-- the staged joins stand within the work area
pub staged_room : (g : Settings) (s es cs w w' l l' : List ℕ) (j p : ℕ) (r : Composed) → Staged g s es cs w w' l l' j p r
    → Accepts g s es cs w (length l) j p r → NAMED + join_cells * r.joins ≤ length w'
unfolding table
staged_room g s es cs w w' l l' j p r st a =
    let e = ap length (st.joins_are (ap (λ (c : Composed). c.number) a.answer-is)) in
    let m = flat-length (joins_of (sided g cs (slips_of s es))) in
    let n = ap (λ (c : Composed). c.joins) a.answer-is in
    by_test (leb (NAMED + join_cells * r.joins) (length w'))
    (λ h. leb-true (NAMED + join_cells * r.joins) (length w') h)
    (λ h.
    let u = leb-false (NAMED + join_cells * r.joins) (length w') h in
    let t = ap length (take_all (join_cells * r.joins) (drop NAMED w') (omega (arith, length-drop NAMED w'))) in
    omega (arith, length-drop NAMED w', a.room, st.work_is.same))
