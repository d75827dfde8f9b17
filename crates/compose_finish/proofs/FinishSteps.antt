-- The last step: 8, 9, or all is written.
use mathlib.Core.Path.{◌≡◌, refl, sym, ◌∙◌, ap}
use mathlib.Core.Bool.{true, ◌||◌}
use mathlib.Core.List.{List, [], ◌∷◌, ◌++◌, append_assoc}
use Prim.Native.Nat.{ℕ, zero, suc, ◌+◌, ◌*◌, ◌≤◌, ◌<◌}
use borrow.Author.Tests.{lt-ltb, le-ltb}
use native.Mathlib.Omega.{arith}
use lib.Dec.{ltb}
use lib.ListN.{length, get_or}
use Rattle.words.specs.Lists.{over}
use Rattle.tables.specs.Tables.{table}
use Rattle.tables.proofs.Tables.{table_more}
use Rattle.trays.specs.declared.Refusal.{Refusal}
use Rattle.trays.specs.Limits.{max_slips, work_need}
use Rattle.trays.specs.Faults.{refusal, accepted, first_row, written}
use Rattle.greedy.specs.Joins.{Join}
use Rattle.greedy.specs.Composing.{Composing, joins_of, legend_of}
use Rattle.layout.specs.Layout.{JOINS}
use Rattle.layout.specs.Staging.{join_in, joins_in}
use Rattle.answers.specs.declared.Composed.{Composed}
use Rattle.answers.specs.Composing.{room_rows, composed_by, outcome_of, refused_by, join_cells, flat_joins}
use Rattle.legend_counts.proofs.CountSteps.{joins_more}
use Rattle.compose_finish.specs.Steps.Finishing.{Finished}

module _ (c : Composing) (l j p : ℕ) where
  abbrev fault : Refusal
  fault = first_row (room_rows c l j p)

  pub legend_short : l < length (legend_of c) → fault ≡ refusal 8 (length (legend_of c))
  legend_short h = rw (lt-ltb l (length (legend_of c)) h)

  module _ (h : length (legend_of c) ≤ l) where
    pub lists_short : ltb j (length (joins_of c)) || ltb p (length c.members) ≡ true → fault ≡ refusal 9 (length (joins_of c))
    lists_short t = rw (le-ltb l (length (legend_of c)) h, t)

    pub nothing_short : length (joins_of c) ≤ j → length c.members ≤ p → fault ≡ accepted
    nothing_short u v = rw (le-ltb l (length (legend_of c)) h, le-ltb j (length (joins_of c)) u, le-ltb p (length c.members) v)

-- a refusal is no answer to a tray that is composed
pub not_composed : (f : Refusal) (n d : ℕ) (r : Composed) → f ≡ refusal (suc n) d → r ≡ refused_by f → r.number ≡ 0 → ⊥
not_composed f n d r e q z =
    let u : r.number ≡ suc n = ap (λ (c : Composed). c.number) q ∙ ap (λ (g : Refusal). g.number) e in omega arith

-- the two cases of the answer
module _ (c : Composing) (l : List ℕ) where
  pub turned_back_lem : (f : Refusal) (n d : ℕ) → f ≡ refusal (suc n) d → (refused_by f ≡ composed_by f c) × (l ≡ written f (legend_of c) l)
  turned_back_lem f n d e = rw e (refl, refl)

  pub composed_all : (f : Refusal) → f ≡ accepted → (outcome_of c ≡ composed_by f c) × (over (legend_of c) l ≡ written f (legend_of c) l)
  composed_all f e = rw e (refl, refl)

  -- a refusal in place C leaves every buffer as it was
  pub refused_finished : (w : List ℕ) (j p : ℕ) (f : Refusal) (n d : ℕ) (r : Composed) → f ≡ refusal (suc n) d →
      first_row (room_rows c (length l) j p) ≡ f → r ≡ refused_by f → Finished c w w l l j p r
  refused_finished w j p f n d r e h q =
      let (answer, legend) = turned_back_lem f n d e in
      record {
        answer-is = q ∙ rw h answer;
        legend_is = rw h legend;
        same = refl;
        joins_are = λ z. absurd (not_composed f n d r e q z);
        places_are = λ z. absurd (not_composed f n d r e q z);
      }

-- the joins as numbers
flat_more : (js : List Join) (j : Join) → flat_joins (js ++ (j ∷ [])) ≡ flat_joins js ++ (j.left ∷ (j.right ∷ (j.overlap ∷ [])))
flat_more [] j = refl
flat_more (k ∷ js) j = ap (λ (l : List ℕ). k.left ∷ (k.right ∷ (k.overlap ∷ l))) (flat_more js j)

table_three : (w : List ℕ) (base n : ℕ) → base + (join_cells * suc n) ≤ length w →
    table w base (join_cells * suc n) ≡ table w base (join_cells * n)
    ++ (get_or w (base + join_cells * n) 0 ∷ (get_or w (base + (join_cells * n + 1)) 0 ∷ (get_or w (base + (join_cells * n + 2)) 0 ∷ [])))
table_three w base n h =
    let a = table_more w base (join_cells * n + 2) (join_cells * suc n) (omega arith) (omega arith) in
    let b = table_more w base (join_cells * n + 1) (join_cells * n + 2) (omega arith) (omega arith) in
    let c = table_more w base (join_cells * n) (join_cells * n + 1) (omega arith) (omega arith) in
    a ∙ rw (b, c) (simp append_assoc)

module _ (w : List ℕ) (room : work_need ≤ length w) where
  pub flat-table : (n : ℕ) → n ≤ max_slips → table w JOINS (join_cells * n) ≡ flat_joins (joins_in w n)
  unfolding table
  flat-table zero h = refl
  flat-table (suc n) h =
      let e : 0 + n ≡ n = omega arith in
      let at : ℕ → ℕ = λ i. get_or w (JOINS + i) 0 in
      table_three w JOINS n (omega arith)
      ∙ ap (λ (l : List ℕ). l ++ (at (join_cells * n) ∷ (at (join_cells * n + 1) ∷ (at (join_cells * n + 2) ∷ [])))) (flat-table n (omega arith))
      ∙ sym (ap flat_joins (joins_more w 0 n) ∙ flat_more (joins_in w n) (join_in w (0 + n)) ∙ rw e)
