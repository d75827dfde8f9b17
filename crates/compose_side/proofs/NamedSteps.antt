-- What was composed of chosen slips, told by their numbers in the whole tray: d is the tray of these slips alone, c the whole tray with these as members.
--   names_can, records_can == the joins and places that are staged for d can be told so
--   named_finished         == then the answer, the legend, the joins and the records are those of c
-- c composes as d does (greedy/proofs/Alone).
use mathlib.Core.Path.{◌≡◌, refl, sym, ◌∙◌, ap, subst}
use mathlib.Core.Bool.{◌||◌}
use mathlib.Core.List.Memᴰ
use mathlib.Core.List.{List, [], ◌∷◌, map}
use Prim.Native.Nat.{ℕ, zero, suc, ◌+◌, ◌*◌, ◌≤◌, ◌<◌}
use native.Mathlib.Nat.{zero-add}
use native.Mathlib.Omega.{arith}
use lib.Dec.{ltb}
use lib.ListN.{length, get_or, length-map}
use Rattle.words.specs.Lists.{each, up_from, entry}
use Rattle.words.proofs.Members.{In, in_up_from, up_from_in}
use Rattle.words.proofs.Runs.{length-up_from, each_places}
use Rattle.words.proofs.Sums.{all_at}
use Rattle.tables.specs.Tables.{table}
use Rattle.tables.proofs.Tables.{cells-below}
use Rattle.trays.specs.declared.Refusal.{Refusal}
use Rattle.trays.specs.declared.Settings.{Settings}
use Rattle.trays.specs.Limits.{max_slips, work_need}
use Rattle.trays.specs.Slips.{slips_of, slip, numbers, only}
use Rattle.trays.specs.Faults.{row, first_row, written}
use Rattle.trays.specs.Written.{letters_of, ends_of}
use Rattle.trays.proofs.Kept.{in_kept}
use Rattle.trays.proofs.WrittenSlips.{slips_written}
use Rattle.greedy.specs.Joins.{Join, rejoin}
use Rattle.greedy.specs.Composing.{Composing, among, whole, rule, kept_of, joins_of, legend_of}
use Rattle.greedy.specs.Sides.{Alone}
use Rattle.greedy.proofs.Relabel.{Within, plain_in}
use Rattle.greedy.proofs.Chosen.{Real, only-accepted}
use Rattle.greedy.proofs.Alone.{alone_of, aside_alone, place_alone, compared_alone}
use Rattle.greedy.proofs.KeptSizes.{joins_fewer}
use Rattle.layout.specs.Layout.{JOINS, PLACES, NAMED, RECORDS}
use Rattle.layout.specs.Staging.{join_in, joins_in}
use Rattle.layout.proofs.Staged.{joins_read, place_read}
use Rattle.answers.specs.declared.Composed.{Composed}
use Rattle.answers.specs.Composing.{room_rows, outcome_of, refused_by, composed_by, join_cells, flat_joins, place_cells, flat_places}
use Rattle.answers.specs.Composing.{record_cells, record_numbers, flat_records}
use Rattle.compose_finish.specs.Steps.Finishing.{Finished}
use Rattle.compose_names.specs.Steps.Naming.{SlipsIn, NamesAsk, JoinsNamed, record_in, RecordsAsk, RecordsMade}
use Rattle.tray_cut.specs.Choosing.{CanCut}
use Rattle.tray_cut.proofs.CutTray.{chosen_real, chosen_few}
use Rattle.compose_side.specs.Steps.Sides.{SideFinished}

five : (a b c d e p q r : ℕ) → b ≡ p → c ≡ q → d ≡ r → a ∷ (b ∷ (c ∷ (d ∷ (e ∷ [])))) ≡ a ∷ (p ∷ (q ∷ (r ∷ (e ∷ []))))
five a b c d e p q r x y z = rw (x, y, z)

-- rows 8 and 9, and the answer, by their counts
rows_by : ℕ → ℕ → ℕ → ℕ → ℕ → ℕ → List Refusal
rows_by l j p need joins slips = row 8 (ltb l need) need ∷ (row 9 (ltb j joins || ltb p slips) joins ∷ [])

module _ (g : Settings) (s es M w : List ℕ) (h : CanCut s es M) (room : work_need ≤ length w) (b : ℕ) where
  abbrev os : List (List ℕ)
  os = only (slips_of s es) M

  abbrev d : Composing
  d = whole g os

  abbrev c : Composing
  c = among g M (slips_of s es)

  R : Real (length (slips_of s es)) M
  R = chosen_real s es M h

  A : Alone c d
  A = alone_of c R

  count_os : length os ≡ length M
  count_os = length-map M (slip (slips_of s es))

  members-same : length c.members ≡ length d.members
  members-same = sym (length-up_from 1 (length os) ∙ count_os)

  kept_same : length (kept_of c) ≡ length (kept_of d)
  kept_same = ap length A.kept_are ∙ length-map (kept_of d) (entry M)

  joins_same : length (joins_of c) ≡ length (joins_of d)
  joins_same = ap length A.joins_are ∙ length-map (joins_of d) (rejoin (entry M))

  need_same : length (legend_of c) ≡ length (legend_of d)
  need_same = ap length A.legend_is

  -- the same rows, and the same answer
  module _ (l j p : ℕ) where
    rows_same : room_rows c l j p ≡ room_rows d l j p
    unfolding rows_by
    rows_same =
        ap (λ n. rows_by l j p n (length (joins_of c)) (length c.members)) need_same
        ∙ ap (λ n. rows_by l j p (length (legend_of d)) n (length c.members)) joins_same
        ∙ ap (rows_by l j p (length (legend_of d)) (length (joins_of d))) members-same

    outcome_same : outcome_of c ≡ outcome_of d
    outcome_same = rw (members-same, kept_same, A.letters_are, A.saved-is, need_same, joins_same)

    answer-same : composed_by (first_row (room_rows c l j p)) c ≡ composed_by (first_row (room_rows d l j p)) d
    answer-same =
        let v = first_row (room_rows d l j p) in
        ap (λ (rs : List Refusal). composed_by (first_row rs) c) rows_same
        ∙ ap {B = Composed} (λ (x : Composed). elim v.number [ zero ↦ x | suc n ↦ refused_by v ]) outcome_same

  -- both slips of a join are among the chosen
  join_within : (j : Join) → In j (joins_of d) → SlipsIn M j
  join_within j m =
      let (l, r) = all_at (Within (kept_of d)) (joins_of d) j (plain_in (rule d) os (kept_of d)) m in
      record { left = inside j.left l; right = inside j.right r }
    where
      inside : (i : ℕ) → In i (kept_of d) → (1 ≤ i) × (i ≤ length M)
      inside i k = omega (arith, in_up_from 1 (length os) (in_kept os (numbers os) k).0, count_os)

  joins_few : length (joins_of d) ≤ max_slips
  joins_few =
      subst (λ (xs : List (List ℕ)). length (joins_of (whole g xs)) ≤ max_slips) (slips_written os)
      (omega (arith, joins_fewer (letters_of os) (ends_of os) (only-accepted s es M h.tray R) g))

  module _ (w₁ l l' : List ℕ) (jr pr : ℕ) (r : Composed) (F : Finished (whole g (only (slips_of s es) M)) w w₁ l l' jr pr r) where
    -- composed, or refused with no counts
    pub record NotComposed : Type 0 where
      pub speaks : r.number ≡ 0 → ⊥
      pub no_joins : r.joins ≡ 0
      pub no_slips : r.slips ≡ 0

    abbrev v : Refusal
    v = first_row (room_rows d (length l) jr pr)

    abbrev answer_by : ℕ → Composed
    answer_by n = elim n [ zero ↦ outcome_of d | suc k ↦ refused_by v ]

    tells : {P : Type 0} → (r ≡ outcome_of d → P) → (NotComposed → P) → P
    tells {P} good bad = go v.number refl
      where
        told : (n : ℕ) → v.number ≡ n → r ≡ answer_by n
        told n e = F.answer-is ∙ ap {B = Composed} answer_by e

        go : (n : ℕ) → v.number ≡ n → P
        go zero e = good (told zero e)
        go (suc n) e =
            let q : r ≡ refused_by v = told (suc n) e in
            bad (record {
              speaks = λ z. let u : r.number ≡ v.number = ap (λ (x : Composed). x.number) q in omega arith;
              no_joins = ap (λ (x : Composed). x.joins) q;
              no_slips = ap (λ (x : Composed). x.slips) q;
            })

    long : length w₁ ≡ length w
    long = F.same

    module _ (o : r ≡ outcome_of d) where
      silent : r.number ≡ 0
      silent = ap (λ (x : Composed). x.number) o

      joins_count : r.joins ≡ length (joins_of d)
      joins_count = ap (λ (x : Composed). x.joins) o

      slips_count : r.slips ≡ length M
      slips_count = ap (λ (x : Composed). x.slips) o ∙ sym members-same

      joins_staged : joins_in w₁ r.joins ≡ joins_of d
      joins_staged =
          ap (joins_in w₁) joins_count
          ∙ joins_read w₁ (joins_of d) (ap (λ (n : ℕ). table w₁ JOINS (join_cells * n)) (sym joins_count) ∙ F.joins_are silent)

    pub names_can : (k : ℕ) → k ≡ r.joins → NamesAsk w₁ M k
    names_can k e =
        tells
        (λ o. record {
          room = omega (arith, room, long);
          few = omega (arith, joins_count o, joins_few);
          slips_within = λ i q.
              join_within (join_in w₁ i)
              (subst (λ (js : List Join). In (join_in w₁ i) js) (ap (joins_in w₁) e ∙ joins_staged o)
              (Memᴰ.map (join_in w₁) (up_from_in 0 k i (omega arith) (omega arith))));
        })
        (λ z. record { room = omega (arith, room, long); few = omega (arith, z.no_joins); slips_within = λ i q. absurd (omega (arith, z.no_joins)) })

    -- what the tray of the chosen slips is answered, and its legend, are those of the chosen slips of the whole tray
    answered : r ≡ composed_by (first_row (room_rows c (length l) jr pr)) c
    answered = F.answer-is ∙ sym (answer-same (length l) jr pr)

    legend_written : l' ≡ written (first_row (room_rows c (length l) jr pr)) (legend_of c) l
    legend_written =
        F.legend_is
        ∙ (ap (λ (rs : List Refusal). written (first_row rs) (legend_of d) l) (sym (rows_same (length l) jr pr))
        ∙ ap (λ (t : List ℕ). written (first_row (room_rows c (length l) jr pr)) t l) (sym A.legend_is))

    -- a refusal tells no join and no record
    pub refused_named : (r.number ≡ 0 → ⊥) → SideFinished (among g M (slips_of s es)) b w w₁ l l' jr pr r
    refused_named z =
        record {
          answer-is = answered;
          legend_is = legend_written;
          same = long;
          joins_are = λ e. absurd (z e);
          records_are = λ e. absurd (z e);
        }

    module _ (k : ℕ) (ek : k ≡ r.joins) (w₂ : List ℕ) (N : JoinsNamed M k w₁ w₂) where
      pub records_can : (n : ℕ) → n ≡ r.slips → RecordsAsk w₂ M n
      records_can n e =
          let few : r.slips ≤ length M = tells (λ o. omega (arith, slips_count o)) (λ z. omega (arith, z.no_slips)) in
          record {
            room = omega (arith, room, long, N.only.same);
            few = omega (arith, few, chosen_few s es M h);
            there = omega (arith, few);
          }

      module _ (o : r ≡ outcome_of d) where
        joins_named : table w₂ NAMED (join_cells * r.joins) ≡ flat_joins (joins_of c)
        joins_named =
            ap (λ (n : ℕ). table w₂ NAMED (join_cells * n)) (sym ek) ∙ N.joins_are
            ∙ ap (λ (js : List Join). flat_joins (map (rejoin (entry M)) js)) (ap (joins_in w₁) ek ∙ joins_staged o) ∙ ap flat_joins (sym A.joins_are)

        places_staged : table w₂ PLACES (place_cells * length os) ≡ flat_places d
        places_staged =
            cells-below PLACES (place_cells * length os) N.only (omega (arith, count_os, chosen_few s es M h))
            ∙ ap (λ (n : ℕ). table w₁ PLACES (place_cells * n)) (count_os ∙ sym (slips_count o)) ∙ F.places_are (silent o)

        -- the record of the member at place i
        record_is : (i : ℕ) → i < length M → record_in w₂ M b i ≡ record_numbers c b (get_or M i 0)
        record_is i q =
            let inside : In (suc i) (numbers os) = up_from_in 1 (length os) (suc i) (omega arith) (omega (arith, count_os)) in
            let is = place_read w₂ d places_staged i (omega (arith, count_os)) in
            five _ _ _ _ _ _ _ _ (is 0 (place_cells * i) (omega arith) (omega arith) ∙ sym (place_alone c R (suc i) inside))
            (is 1 (place_cells * i + 1) (omega arith) refl ∙ rw (aside_alone c R (suc i) inside))
            (is 2 (place_cells * i + 2) (omega arith) refl ∙ sym (compared_alone c R (suc i) inside))

        records_are : each (record_in w₂ M b) (up_from 0 (length M)) ≡ flat_records c b
        records_are =
            each_places 0 (record_in w₂ M b) (record_numbers c b) 0 M (λ i q. ap (record_in w₂ M b) (zero-add i) ∙ record_is i q)

      module _ (n : ℕ) (en : n ≡ r.slips) (w₃ : List ℕ) (T : RecordsMade M b n w₂ w₃) where
        pub named-same : length w₃ ≡ length w
        named-same = T.only.same ∙ N.only.same ∙ long

        composed : r.number ≡ 0 → r ≡ outcome_of d
        composed z = tells (λ o. o) (λ n. absurd (n.speaks z))

        pub named_finished : SideFinished (among g M (slips_of s es)) b w w₃ l l' jr pr r
        named_finished =
            record {
              answer-is = answered;
              legend_is = legend_written;
              same = named-same;
              joins_are = λ z.
                  cells-below NAMED (join_cells * r.joins) T.only (omega (arith, joins_count (composed z), joins_few)) ∙ joins_named (composed z);
              records_are = λ z.
                  ap (λ (m : ℕ). table w₃ RECORDS (record_cells * m)) (sym en) ∙ T.records_are
                  ∙ ap (λ (m : ℕ). each (record_in w₂ M b) (up_from 0 m)) (en ∙ slips_count (composed z)) ∙ records_are (composed z);
            }
