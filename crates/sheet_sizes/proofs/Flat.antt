-- Sheets from numbers: over the numbers that composing a side and finding leave, they are the sheets of the side and of the text.
--   lines-each         == lines by index are lines by element
--   record_real        == a record has the number of a slip
--   compose_lines_are, find_lines_are  == the two sheets
use mathlib.Core.Path.{◌≡◌, refl, ◌∙◌, ap}
use mathlib.Core.Bool.{Bool, true, false, cond}
use mathlib.Core.List.{List}
use Prim.Native.Nat.{ℕ, ◌+◌, ◌-◌, ◌*◌, ◌≤◌, ◌<◌}
use native.Mathlib.Nat.{zero-add}
use native.Mathlib.Omega.{arith}
use lib.ListN.{length, get_or}
use Rattle.words.specs.Lists.{each}
use Rattle.words.proofs.Picks.{get_or_in}
use Rattle.words.proofs.Runs.{each_places}
use Rattle.trays.specs.declared.Settings.{Settings}
use Rattle.trays.specs.Slips.{slips_of, slip, start_of, end_of}
use Rattle.trays.specs.Aside.{is_aside}
use Rattle.trays.specs.Sides.{of_side, AcceptedSides}
use Rattle.trays.proofs.Accepted.{slips_count}
use Rattle.trays.proofs.Spans.{accepted_spanned}
use Rattle.greedy.specs.Joins.{Join, join}
use Rattle.greedy.specs.Composing.{Composing, sided, joins_of, legend_of}
use Rattle.greedy.proofs.SideLists.{slips_side}
use Rattle.matching.specs.Moves.{moves}
use Rattle.matching.specs.Occurrences.{Occurrence, occurrence, occurrences}
use Rattle.answers.specs.Composing.{outcome_of, join_cells, flat_joins, record_cells, flat_records}
use Rattle.answers.specs.Finding.{flat_found}
use Rattle.answers.proofs.FlatLists.{joins_at, found_at, records_at}
use Rattle.sheet_rule.specs.Sheets.{aside_sign, kept_sign, sign_of, join_line, slip_line_of, slip_line_at, join_line_at}
use Rattle.sheet_rule.specs.Sheets.{found_line, found_line_at, lines, compose_lines, side_sheet_of, find_lines, find_sheet_of}

pub lines-each : {A : Type 0} (d : A) (f : ℕ → List ℕ) (g : A → List ℕ) (xs : List A) → ((i : ℕ) → i < length xs → f i ≡ g (get_or xs i d)) →
    lines f (length xs) ≡ each g xs
lines-each d f g xs h = each_places d f g 0 xs (λ i l. ap f (zero-add i) ∙ h i l)

-- joins and occurrences
pub joins_flat : (js : List Join) → lines (join_line_at (flat_joins js)) (length js) ≡ each (λ j. join_line j.left j.right j.overlap) js
joins_flat js =
    lines-each (join 0 0 0) (join_line_at (flat_joins js)) (λ j. join_line j.left j.right j.overlap) js
    (λ i h.
    let at = joins_at js i in
    rw (at 0 (join_cells * i) h (omega arith) (omega arith), at 1 (join_cells * i + 1) h (omega arith) refl, at 2 (join_cells * i + 2) h (omega arith) refl))

pub found_flat : (fs : List Occurrence) → lines (found_line_at (flat_found fs)) (length fs) ≡ each (λ f. found_line f.end f.which) fs
found_flat fs =
    lines-each (occurrence 0 0) (found_line_at (flat_found fs)) (λ f. found_line f.end f.which) fs
    (λ i h. let at = found_at fs i in rw (at 0 (2 * i) h (omega arith) (omega arith), at 1 (2 * i + 1) h (omega arith) refl))

-- slips
sign_flat : (b : Bool) → sign_of (cond b 0 1) ≡ cond b aside_sign kept_sign
sign_flat true = refl
sign_flat false = refl

module _ (g : Settings) (s es cs : List ℕ) (a : AcceptedSides s es cs) where
  abbrev ss : List (List ℕ)
  ss = slips_of s es

  abbrev b : ℕ
  b = g.side

  abbrev c : Composing
  c = sided g cs (slips_of s es)

  abbrev M : List ℕ
  M = of_side cs g.side

  pub record_real : (i : ℕ) → i < length M → (1 ≤ get_or M i 0) × (get_or M i 0 ≤ length es)
  record_real i h = omega (arith, (slips_side s es cs b a.sides).real (get_or M i 0) (get_or_in 0 M i h), slips_count s es)

  slip-flat : (i : ℕ) → i < length M → slip_line_at es (flat_records c b) i ≡ slip_line_of c (get_or M i 0)
  slip-flat i h =
      let k = get_or M i 0 in
      let (p, q) = record_real i h in
      let n : end_of es k - start_of es k ≡ length (slip ss k) = omega (arith, (accepted_spanned s es a.tray).long k p q) in
      let at = records_at c b i in
      let number = at 0 (record_cells * i) h (omega arith) (omega arith) in
      let place = at 1 (record_cells * i + 1) h (omega arith) refl in
      let mark = at 2 (record_cells * i + 2) h (omega arith) refl in
      rw (number, place, mark, n, sign_flat (is_aside ss M k))

  -- what compose_lines writes, over the numbers that composing the side leaves
  pub compose_lines_are :
      let d = sided g cs (slips_of s es) in
      compose_lines g.side (outcome_of d) es (flat_joins (joins_of d)) (flat_records d g.side) (legend_of d) ≡ side_sheet_of g.side d
  unfolding side_sheet_of
  compose_lines_are = rw (lines-each 0 (slip_line_at es (flat_records c b)) (slip_line_of c) M slip-flat, joins_flat (joins_of c))

-- what find_lines writes, over the numbers of the occurrences
pub find_lines_are : (ss : List (List ℕ)) (t : List ℕ) →
    find_lines (length t) (moves ss t) (length (occurrences ss t)) (flat_found (occurrences ss t)) ≡ find_sheet_of ss t
unfolding find_sheet_of
find_lines_are ss t = rw (found_flat (occurrences ss t))
