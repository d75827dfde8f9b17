-- From the staged answer to lists of numbers: nothing is copied where something was refused.
--   joins_can, places_can == what copying asks
--   flat_says             == what composing over slices of numbers leaves
use mathlib.Core.Path.{◌≡◌, refl, ◌∙◌, ap}
use mathlib.Core.Bool.{true}
use mathlib.Core.List.{List}
use Prim.Native.Nat.{ℕ, zero, suc, ◌*◌, ◌/◌, ◌≤◌}
use native.Mathlib.Nat.{mul-zero, mul-suc}
use borrow.Author.Tests.{leb-true}
use native.Mathlib.Omega.{arith}
use lib.Dec.{leb}
use lib.ListN.{length}
use Rattle.words.specs.Lists.{over}
use Rattle.trays.specs.declared.Settings.{Settings}
use Rattle.tables.specs.Tables.{table}
use Rattle.layout.specs.Layout.{NAMED, RECORDS}
use Rattle.answers.specs.declared.Composed.{Composed}
use Rattle.compose_side.specs.Steps.Sides.{Staged}
use Rattle.compose_side.proofs.StagedTells.{staged_tells, staged_room}
use Rattle.answers.specs.Composing.{join_cells, record_cells}
use Rattle.answers.specs.Flat.{ComposeFlat}
use Rattle.tables.specs.Copying.{CanCopy}

times_least : (k n m : ℕ) → k ≤ n → k * m ≤ n * m
times_least k n zero h = omega (arith, mul-zero k, mul-zero n)
times_least k n (suc m) h = omega (arith, mul-suc k m, mul-suc n m, times_least k n m h)

-- no cell is written over
pub none_over : (w : List ℕ) (base : ℕ) (xs : List ℕ) → xs ≡ over (table w base 0) xs
unfolding table
none_over w base xs = refl

module _ (g : Settings) (s es cs w w₁ l l' : List ℕ) (jr pr : ℕ) (r : Composed) (st : Staged g s es cs w w₁ l l' jr pr r) where
  pub joins_can : (m : ℕ) (j : List ℕ) → m ≡ r.joins → jr ≡ length j / join_cells → CanCopy w₁ NAMED (join_cells * m) j
  joins_can m j e q =
      staged_tells g s es cs w (length l) jr pr r st.answer-is
      (λ a. let d = staged_room g s es cs w w₁ l l' jr pr r st a in record { there = omega (arith, d); room = omega (arith, a.joins_fit) })
      (λ b. let z = ap (λ (c : Composed). c.joins) b.answer-is in record { there = omega arith; room = omega arith })

  -- from any cell up to where the records stand, and up to as many cells as a record has: that these are the right ones is for `flat_says`
  pub places_can :
      (base k m : ℕ) (p : List ℕ) → leb base RECORDS ≡ true → leb k record_cells ≡ true → m ≡ r.slips → pr ≡ length p / record_cells
      → CanCopy w₁ base (k * m) p
  places_can base k m p h few e q =
      let fewer : k * m ≤ record_cells * m = times_least k record_cells m (leb-true k record_cells few) in
      staged_tells g s es cs w (length l) jr pr r st.answer-is
      (λ a.
      let near : base ≤ RECORDS = leb-true base RECORDS h in
      record { there = omega (arith, a.room, a.few_slips, st.work_is.same); room = omega (arith, a.places_fit) })
      (λ b. let z = ap (λ (c : Composed). c.slips) b.answer-is in record { there = omega arith; room = omega arith })

  pub flat_says :
      (j j' p p' : List ℕ) (m n : ℕ) → jr ≡ length j / join_cells → pr ≡ length p / record_cells → m ≡ r.joins → n ≡ r.slips
      → j' ≡ over (table w₁ NAMED (join_cells * m)) j → p' ≡ over (table w₁ RECORDS (record_cells * n)) p → ComposeFlat g s es cs w w₁ l l' j j' p p' r
  unfolding table
  flat_says j j' p p' m n ej ep em en hj hp =
      staged_tells g s es cs w (length l) jr pr r st.answer-is
      (λ a.
      let z : r.number ≡ 0 = ap (λ (c : Composed). c.number) a.answer-is in
      let q = rw (ej, ep) at a.silent in
      record {
        answer-is = st.answer-is ∙ rw (ej, ep);
        legend_is = st.legend_is ∙ rw (ej, ep);
        joins_are = hj ∙ rw (em, st.joins_are z, q);
        places_are = hp ∙ rw (en, st.records_are z, q);
        work_is = st.work_is;
      })
      (λ b.
      let z : r.joins ≡ 0 = ap (λ (c : Composed). c.joins) b.answer-is in
      let y : r.slips ≡ 0 = ap (λ (c : Composed). c.slips) b.answer-is in
      let q = rw (ej, ep) at b.speaks in
      record {
        answer-is = st.answer-is ∙ rw (ej, ep);
        legend_is = st.legend_is ∙ rw (ej, ep);
        joins_are = hj ∙ rw (em, z, q);
        places_are = hp ∙ rw (en, y, q);
        work_is = st.work_is;
      })
