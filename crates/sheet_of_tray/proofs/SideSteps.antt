-- From the answer of composing a side to its sheet.
--   sided_silent == of an accepted tray no row of settings, tray and sides speaks
--   SheetCounts  == joins, records and legend lie within their buffers
--   counts, lines_can == what writing the lines asks, with any settings, and also of an answer that refuses
--   side_printed == what it leaves
-- Nothing is refused: the tray and its sides are accepted, the least overlap is 1, the lent work area is large enough, and no side of an accepted tray has a
-- longer legend or more joins and slips than are taken.
use mathlib.Core.Path.{◌≡◌, refl, sym, ◌∙◌, ap}
use mathlib.Core.Bool.{true}
use mathlib.Core.List.{List, [], ◌∷◌}
use Prim.Native.Nat.{ℕ, ◌+◌, ◌-◌, ◌*◌, ◌≤◌}
use borrow.Author.Tests.{le-ltb}
use native.Mathlib.Omega.{arith}
use lib.ListN.{length, take, drop}
use lib.Seq.{take-append_seam, length-take-le}
use Rattle.words.specs.Lists.{over}
use Rattle.words.proofs.Buffers.{length_over}
use Rattle.tables.proofs.Tables.{part_table}
use Rattle.trays.specs.declared.Refusal.{Refusal}
use Rattle.trays.specs.declared.Settings.{Settings}
use Rattle.trays.specs.Limits.{max_slips, work_need}
use Rattle.trays.specs.Slips.{slips_of}
use Rattle.trays.specs.Faults.{accepted, first_row, written, tray_fault, set_rows}
use Rattle.trays.specs.Sides.{is_side, of_side, sides_row, side_row, sided_rows, AcceptedSides}
use Rattle.trays.proofs.Rows.{or_zero, rows_append, written_all, written_none}
use Rattle.greedy.specs.Composing.{Composing, usual_of, sided, joins_of, legend_of}
use Rattle.layout.specs.Layout.{NAMED, RECORDS}
use Rattle.answers.specs.declared.Composed.{Composed}
use Rattle.answers.specs.Composing.{room_rows, compose_fault, composed_of, outcome_of, refused_by, join_cells, flat_joins, record_cells, flat_records}
use Rattle.answers.proofs.BeforeC.{rows_left}
use Rattle.compose_side.specs.Steps.Sides.{Staged}
use Rattle.compose_side.proofs.StagedTells.{staged_tells}
use Rattle.sheet_rule.specs.Sheets.{compose_lines, side_sheet_of, sheet_room}
use Rattle.sheet_rule.specs.Lent.{Printed}
use Rattle.sheet_lines.specs.Steps.Lines.{ComposeAsks}
use Rattle.sheet_sizes.proofs.SideFits.{side_fits}
use Rattle.sheet_sizes.proofs.Asks.{compose_asks, refused_asks}
use Rattle.sheet_sizes.proofs.Flat.{compose_lines_are}
use Rattle.sheet_sizes.proofs.Printing.{printed_is}
use Rattle.sheet_of_tray.specs.Steps.Lent.{SideRoom, SideSheetSays}

sided_silent : (s es cs : List ℕ) (b : ℕ) → AcceptedSides s es cs → is_side b ≡ true → first_row (sided_rows 1 b s es cs) ≡ accepted
unfolding tray_fault
sided_silent s es cs b a known =
    let last = sides_row es cs ∷ (side_row b ∷ []) in
    rows_append (set_rows 1 s es) last ∙ or_zero (tray_fault s es) (first_row last) a.tray
    ∙ or_zero (sides_row es cs) (first_row (side_row b ∷ [])) a.sides ∙ rw known

-- joins, records and legend lie within their buffers
pub record SheetCounts (w' l' : List ℕ) (r : Composed) : Type 0 where
  pub joins_few : r.joins ≤ max_slips
  pub slips_few : r.slips ≤ max_slips
  pub legend_fits : r.legend ≤ length l'
  pub work : work_need ≤ length w'

-- whatever is set and taken, the numbers fit their columns
module _ (g : Settings) (s es cs w w' l l' : List ℕ) (j p : ℕ) (r : Composed) (tray : AcceptedSides s es cs) (work : work_need ≤ length w)
    (st : Staged g s es cs w w' l l' j p r) where
  abbrev c : Composing
  c = sided g cs (slips_of s es)

  abbrev fault : Refusal
  fault = compose_fault g s es cs (length w) (length l) j p

  by_answer : {P : Type 0} → (r ≡ outcome_of c → l' ≡ over (legend_of c) l → length (legend_of c) ≤ length l → P)
      → ((f : Refusal) → r ≡ refused_by f → l' ≡ l → P) → P
  by_answer good bad =
      staged_tells g s es cs w (length l) j p r st.answer-is
      (λ a. good a.answer-is (st.legend_is ∙ written_all fault (legend_of c) l a.silent) (rw a.answer-is at a.legend_fits))
      (λ b. bad fault b.answer-is (st.legend_is ∙ written_none fault (legend_of c) l (omega (arith, b.speaks))))

  pub legend_long : length l' ≡ length l
  legend_long = by_answer (λ e t h. ap length t ∙ length_over (legend_of c) l h) (λ f e t. ap length t)

  pub counts : SheetCounts w' l' r
  counts =
      let F = side_fits g s es cs tray in
      let left : work_need ≤ length w' = omega (arith, st.work_is.same) in
      by_answer
      (λ e t h. record {
        joins_few = rw e (omega (arith, F.count));
        slips_few = rw e F.slips;
        legend_fits = rw e (omega (arith, legend_long));
        work = left;
      })
      (λ f e t. record { joins_few = rw e (omega arith); slips_few = rw e (omega arith); legend_fits = rw e (omega arith); work = left })

  pub legend_count : r.legend ≡ length (take r.legend l')
  legend_count = sym (length-take-le r.legend l' counts.legend_fits)

  joins_here : r.number ≡ 0 → take (NAMED + join_cells * r.joins - NAMED) (drop NAMED w') ≡ flat_joins (joins_of c)
  joins_here z = part_table w' NAMED (join_cells * r.joins) (NAMED + join_cells * r.joins) refl ∙ st.joins_are z

  records_here : r.number ≡ 0 → take (RECORDS + record_cells * r.slips - RECORDS) (drop RECORDS w') ≡ flat_records c g.side
  records_here z = part_table w' RECORDS (record_cells * r.slips) (RECORDS + record_cells * r.slips) refl ∙ st.records_are z

  legend_here_lem : r ≡ outcome_of c → l' ≡ over (legend_of c) l → take r.legend l' ≡ legend_of c
  legend_here_lem e t = rw (e, t) (take-append_seam (legend_of c) (drop (length (legend_of c)) l))

  pub lines_can : (n : ℕ) → sheet_room ≤ n → ComposeAsks r es (take (NAMED + join_cells * r.joins - NAMED) (drop NAMED w'))
      (take (RECORDS + record_cells * r.slips - RECORDS) (drop RECORDS w')) (take r.legend l') n
  lines_can n h =
      by_answer
      (λ e t k.
      let z : r.number ≡ 0 = ap (λ (x : Composed). x.number) e in
      rw (joins_here z, records_here z, legend_here_lem e t, e) (compose_asks g s es cs tray n h))
      (λ f e t. rw e (refused_asks g s es cs tray n h f _ _))

-- with a least overlap of 1, and where as many joins and records are taken as a tray has slips, nothing is refused
module _ (s es cs : List ℕ) (b : ℕ) (w l : List ℕ) (room : SideRoom s es cs b w l) where
  abbrev d : Composing
  d = sided (usual_of b) cs (slips_of s es)

  silent : compose_fault (usual_of b) s es cs (length w) (length l) max_slips max_slips ≡ accepted
  unfolding compose_fault
  silent =
      let F = side_fits (usual_of b) s es cs room.tray in
      let none : (first_row (sided_rows 1 b s es cs)).number ≡ 0 = ap (λ (f : Refusal). f.number) (sided_silent s es cs b room.tray room.side) in
      rows_left (sided_rows 1 b s es cs) none (length w) (room_rows d (length l) max_slips max_slips) room.work
      ∙ rw (
        le-ltb (length l) (length (legend_of d)) (omega (arith, room.legend, F.legend)),
        le-ltb max_slips (length (joins_of d)) (omega (arith, F.count)),
        le-ltb max_slips (length (of_side cs b)) F.slips,
      )

  module _ (w' l' : List ℕ) (r : Composed) (st : Staged (usual_of b) s es cs w w' l l' max_slips max_slips r) where
    answer : r ≡ outcome_of (sided (usual_of b) cs (slips_of s es))
    unfolding composed_of
    answer = st.answer-is ∙ rw (silent, composed_of)

    laid : l' ≡ over (legend_of (sided (usual_of b) cs (slips_of s es))) l
    laid = st.legend_is ∙ rw (silent, written)

    none : r.number ≡ 0
    none = ap (λ (x : Composed). x.number) answer

    pub side_printed : (o o' : List ℕ) (k : ℕ) →
        Printed (compose_lines b r es (take (NAMED + join_cells * r.joins - NAMED) (drop NAMED w'))
        (take (RECORDS + record_cells * r.slips - RECORDS) (drop RECORDS w')) (take r.legend l')) o o' k → SideSheetSays s es cs b w w' l l' o o' k
    side_printed o o' k p =
        let g = usual_of b in
        record {
          sheet = printed_is _ (side_sheet_of b (sided (usual_of b) cs (slips_of s es))) o o' k
              (rw (
                joins_here g s es cs w w' l l' max_slips max_slips r room.tray room.work st none,
                records_here g s es cs w w' l l' max_slips max_slips r room.tray room.work st none,
                legend_here_lem g s es cs w w' l l' max_slips max_slips r room.tray room.work st answer laid,
                answer,
              )
              (compose_lines_are g s es cs room.tray)) p;
          work = st.work_is.same;
          legend = legend_long g s es cs w w' l l' max_slips max_slips r room.tray room.work st;
        }
