-- Counting before writing: kept letters, saved letters, and what the legend needs.
use mathlib.Core.Path.{◌≡◌, refl, sym, ◌∙◌, ap}
use mathlib.Core.List.{List, [], ◌∷◌, ◌++◌, map}
use Prim.Native.Nat.{ℕ, zero, suc, ◌+◌, ◌-◌, ◌*◌, ◌≤◌}
use native.Mathlib.Omega.{arith}
use lib.ListN.{length, get_or, take, drop}
use Rattle.words.specs.Lists.{up_from}
use Rattle.tables.specs.Tables.{table}
use Rattle.tables.proofs.Tables.{table-length, table_at, table-take, part_table}
use Rattle.trays.specs.Limits.{max_slips, work_need}
use Rattle.trays.specs.Slips.{slips_of, total}
use Rattle.greedy.specs.Joins.{Join, saved}
use Rattle.answers.specs.Composing.{join_cells}
use Rattle.layout.specs.Layout.{KEPT, JOINS, all_joins}
use Rattle.layout.specs.Tables.{cell}
use Rattle.layout.specs.Staging.{kept_in, join_in, joins_in}
use Rattle.legend_counts.specs.Steps.Counting.{thirds, KeptReal, CountAsks, LetterCountsAre}

saved_more : (js : List Join) (j : Join) → saved (js ++ (j ∷ [])) ≡ saved js + j.overlap
saved_more [] j = omega arith
saved_more (k ∷ js) j = omega (arith, saved_more js j)

pub joins_more : (w : List ℕ) (m n : ℕ) → map (join_in w) (up_from m (suc n)) ≡ map (join_in w) (up_from m n) ++ (join_in w (m + n) ∷ [])
joins_more w m zero = let e : m + 0 ≡ m = omega arith in rw e
joins_more w m (suc n) =
    let e : suc m + n ≡ m + suc n = omega arith in
    ap (λ (l : List Join). join_in w m ∷ l) (joins_more w (suc m) n ∙ rw e)

module _ (w : List ℕ) (room : work_need ≤ length w) where
  thirds-saved : (n : ℕ) → n ≤ max_slips → thirds (table w JOINS all_joins) n ≡ saved (joins_in w n)
  thirds-saved zero h = refl
  thirds-saved (suc n) h =
      let e : 0 + n ≡ n = omega arith in
      let c : get_or (table w JOINS all_joins) (join_cells * n + 2) 0 ≡ cell w JOINS (join_cells * n + 2) =
      table_at w JOINS all_joins (join_cells * n + 2) (omega arith) in
      rw (thirds-saved n (omega arith), c) (sym (ap saved (joins_more w 0 n) ∙ saved_more (joins_in w n) (join_in w (0 + n)) ∙ rw e))

abbrev pub kept_part : List ℕ → List ℕ
kept_part w = take (KEPT + max_slips - KEPT) (drop KEPT w)

abbrev joins_part : List ℕ → List ℕ
joins_part w = take (JOINS + all_joins - JOINS) (drop JOINS w)

module _ (s es w : List ℕ) (k j : ℕ) (a : CountAsks s es w k j) where
  kept_part_lem : kept_part w ≡ table w KEPT max_slips
  kept_part_lem = part_table w KEPT max_slips (KEPT + max_slips) refl

  joins_part_lem : joins_part w ≡ table w JOINS all_joins
  joins_part_lem = part_table w JOINS all_joins (JOINS + all_joins) refl

  first-kept : take k (kept_part w) ≡ kept_in w k
  first-kept = rw kept_part_lem (table-take w KEPT k max_slips a.few_kept)

  pub kept_asks : KeptReal s es (kept_part w) k
  kept_asks =
      let l : length (kept_part w) ≡ max_slips = rw kept_part_lem (table-length w KEPT max_slips (omega (arith, a.room))) in
      record {
        tray = a.tray;
        enough = omega (arith, a.few_kept);
        few = a.few_kept;
        real = λ i h. rw (kept_part_lem, table_at w KEPT max_slips i (omega (arith, a.few_kept))) (a.real i h);
      }

  module _ (n m : ℕ) (e : n ≡ total (slips_of s es) (take k (kept_part w))) (f : m ≡ thirds (joins_part w) j) where
    letters_are : n ≡ total (slips_of s es) (kept_in w k)
    letters_are = e ∙ rw first-kept

    saved_are : m ≡ saved (joins_in w j)
    saved_are = f ∙ rw (joins_part_lem, thirds-saved w a.room j a.few_joins)

    pub saved-fits : m ≤ n
    saved-fits = omega (arith, letters_are, saved_are, a.saves)

    pub counts_are : LetterCountsAre s es w k j (record { letters = n; saved = m; need = n - m })
    counts_are = record { letters_are = letters_are; saved_are = saved_are; need_is = omega (arith, saved-fits) }
