-- The ways through check_build and build_index.
--   build-..   == rows 1 to 6 and 22, then 9
--   few-..     == the tray is accepted, and so small, where none of them speaks
--   fill-..    == what filling and sorting ask for
--   built-..   == what is promised, where the call is refused and where it is not
-- The list is filled with the numbers of the slips and sorted where it stands, so that it is the index written over its first part.
use mathlib.Core.Path.{◌≡◌, refl, sym, ◌∙◌, ap}
use mathlib.Core.List.{List, [], ◌∷◌}
use Prim.Native.Nat.{ℕ, ◌+◌, ◌≤◌, ◌<◌, ◌^◌}
use borrow.Author.Tests.{lt-ltb, le-ltb, ltb-false}
use native.Mathlib.Omega.{arith}
use lib.Dec.{ltb}
use lib.ListN.{length}
use Rattle.words.specs.Lists.{in_order, up_from}
use Rattle.trays.specs.declared.Refusal.{Refusal}
use Rattle.trays.specs.Limits.{max_slips}
use Rattle.trays.specs.Slips.{slips_of}
use Rattle.trays.specs.declared.fault.Fault.{Fault}
use Rattle.trays.specs.Told.{told}
use Rattle.trays.proofs.Told.{told_speaks, told-first, told_next}
use Rattle.trays.specs.Faults.{refusal, accepted, or_else, tray_fault}
use Rattle.trays.specs.Sides.{sided_tray_rows, sided_tray_fault}
use Rattle.trays.proofs.Rows.{or_zero, or_some, both_silent, rows_append, written_all, written_none}
use Rattle.trays.proofs.Accepted.{row_silent, accepted_tells, slips_count}
use Rattle.trays.proofs.SidedTrays.{rows-accepted}
use Rattle.index_rule.specs.Index.{precedes, index_of}
use Rattle.index_rule.specs.Answers.{entries_row, build_fault, IndexBuilt}
use Rattle.index_rule.proofs.Precedes.{index_length}
use Rattle.tables.specs.Tables.{table, Filled}
use Rattle.tables.proofs.Tables.{only_trans, filled_over}
use Rattle.trie_order.specs.Order.{Sortable}
use Rattle.trie_order.proofs.AllMembers.{all_sortable}

module _ (s es cs : List ℕ) where
  pub tray_accepted : (sided_tray_fault s es cs).number ≡ 0 → (tray_fault s es).number ≡ 0
  unfolding sided_tray_fault
  tray_accepted z = (rows-accepted s es cs z).tray

  module _ (n : ℕ) where
    build_is : build_fault s es cs n ≡ or_else (sided_tray_fault s es cs) (or_else (entries_row es n) accepted)
    unfolding build_fault sided_tray_fault
    build_is = rows_append (sided_tray_rows s es cs) (entries_row es n ∷ [])

    pub build_tray : (y : Fault) → told y ≡ sided_tray_fault s es cs → told y ≡ build_fault s es cs n
    build_tray y e = told-first y (sided_tray_fault s es cs) _ e ∙ sym build_is

    module _ (e : accepted ≡ sided_tray_fault s es cs) where
      then_row : build_fault s es cs n ≡ or_else (entries_row es n) accepted
      then_row = build_is ∙ sym (told_next (sided_tray_fault s es cs) _ e)

      pub count_small : length es < 2 ^ 32
      count_small = omega (arith, (accepted_tells s es (tray_accepted (ap (λ (r : Refusal). r.number) (sym e)))).few)

      pub build_short : n < length es → refusal 9 (length es) ≡ build_fault s es cs n
      build_short h = sym (then_row ∙ rw (lt-ltb n (length es) h))

      pub build_room : length es ≤ n → accepted ≡ build_fault s es cs n
      build_room h = sym (then_row ∙ rw (le-ltb n (length es) h))

  -- the call is refused: the list is as it was
  pub built_none : (x : List ℕ) (y : Fault) → told y ≡ build_fault s es cs (length x) → IndexBuilt s es cs x x (told y)
  built_none x y e =
      record {
        answer-is = e;
        index_is = sym (written_none (build_fault s es cs (length x)) (index_of (slips_of s es)) x (rw (← e) (told_speaks y)));
      }

  module _ (x : List ℕ) (e : accepted ≡ build_fault s es cs (length x)) where
    silent : ((sided_tray_fault s es cs).number ≡ 0) × ((entries_row es (length x)).number ≡ 0)
    silent =
        let whole : (or_else (sided_tray_fault s es cs) (or_else (entries_row es (length x)) accepted)).number ≡ 0 =
        ap (λ (r : Refusal). r.number) (sym (e ∙ build_is (length x))) in
        let (tray, rest) = both_silent (sided_tray_fault s es cs) (or_else (entries_row es (length x)) accepted) whole in
        (tray, (both_silent (entries_row es (length x)) accepted rest).0)

    pub tray : (tray_fault s es).number ≡ 0
    tray = tray_accepted silent.0

    pub fill_few : length es ≤ max_slips
    fill_few = (accepted_tells s es tray).few

    pub fill_room : 0 + length es ≤ length x
    fill_room = omega (arith, ltb-false (length x) (length es) (row_silent 8 (ltb (length x) (length es)) (length es) silent.1))

    module _ (x₁ : List ℕ) (f₁ : Filled 0 (length es) (up_from 1 (length es)) x x₁) where
      pub sort_asks : Sortable s es (table x₁ 0 (length es))
      sort_asks = rw f₁.cells (all_sortable s es tray)

      pub sort_room : 0 + length es ≤ length x₁
      sort_room = omega (arith, fill_room, f₁.only.same)

      pub built_all : (x₂ : List ℕ) → Filled 0 (length es) (in_order (precedes (slips_of s es)) (table x₁ 0 (length es))) x₁ x₂ → IndexBuilt s es cs x x₂ accepted
      built_all x₂ f₂ =
          let ss = slips_of s es in
          let sorted : in_order (precedes ss) (table x₁ 0 (length es)) ≡ index_of ss = rw (f₁.cells, slips_count s es) in
          let both : Filled 0 (length es) (index_of ss) x x₂ = record { cells = f₂.cells ∙ sorted; only = only_trans f₁.only f₂.only } in
          record {
            answer-is = e;
            index_is =
                filled_over both (index_length ss ∙ slips_count s es) (omega (arith, fill_room))
                ∙ sym (written_all (build_fault s es cs (length x)) (index_of ss) x (ap (λ (r : Refusal). r.number) (sym e)));
          }
