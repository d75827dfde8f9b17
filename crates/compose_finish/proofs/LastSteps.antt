-- From what the walk left to the answer.
use mathlib.Core.Path.{◌≡◌, refl, sym, ◌∙◌, ap, subst}
use mathlib.Core.Bool.{Bool, true, ◌||◌}
use mathlib.Core.Logic.{◌⊎◌, inl, inr}
use mathlib.Core.List.{List, [], ◌∷◌}
use Prim.Native.Nat.{ℕ, suc, ◌+◌, ◌*◌, ◌^◌, ◌≤◌, ◌<◌}
use borrow.Author.Tests.{lt-ltb}
use native.Mathlib.Omega.{arith}
use lib.Dec.{eqb, ltb}
use lib.ListN.{length, get_or, take, length-replicate, length-map}
use Rattle.words.specs.Lists.{up_from}
use Rattle.words.proofs.Tests.{by_test, or_left, or_right}
use Rattle.words.proofs.Members.{In}
use Rattle.words.proofs.Picks.{get_or_in}
use Rattle.words.proofs.Sums.{All}
use Rattle.words.proofs.Runs.{length-up_from}
use Rattle.tables.specs.Tables.{table}
use Rattle.tables.proofs.Tables.{table-length, table_at, table-take, table_same}
use Rattle.trays.specs.declared.Settings.{Settings}
use Rattle.trays.specs.Limits.{max_slips}
use Rattle.trays.specs.Slips.{numbers, total}
use Rattle.trays.specs.Aside.{counted}
use Rattle.trays.specs.Faults.{refusal, first_row}
use Rattle.trays.proofs.Accepted.{accepted_tells, slips_count, numbers_count}
use Rattle.greedy.specs.Joins.{Join, right_of, saved}
use Rattle.greedy.specs.Composing.{Composing, whole, joins_of, legend_of, kept_letters}
use Rattle.greedy.specs.Legends.{pieces_for}
use Rattle.greedy.proofs.Relabel.{plain_in}
use Rattle.greedy.proofs.GreedyLegends.{greedy_of}
use Rattle.greedy.proofs.Chosen.{numbers_real}
use Rattle.greedy.proofs.KeptSizes.{tray_slips, kept_real, kept_few, kept_small, legend_small, pieces_count}
use Rattle.legend_chains.specs.Pieces.{pieces_in}
use Rattle.legend_chains.proofs.NeighbourPieces.{pieces-by}
use Rattle.layout.specs.Layout.{KEPT, JOINS, PLACES, all_places}
use Rattle.layout.specs.Tables.{cell}
use Rattle.layout.specs.Staging.{kept_in, join_in, joins_in}
use Rattle.answers.specs.declared.Composed.{Composed}
use Rattle.answers.specs.Composing.{room_rows, refused_by, join_cells, place_cells, flat_places}
use Rattle.legend_counts.specs.declared.LetterCounts.{LetterCounts}
use Rattle.legend_counts.specs.Steps.Counting.{CountAsks, LetterCountsAre}
use Rattle.legend_write.specs.Steps.Writing.{pieces_here, StageAsks, PiecesStaged, WritingAsks, PlacesWritten, Written}
use Rattle.compose_finish.specs.Steps.Finishing.{AfterWalk, Joined, SomeJoined, Finished, FinishedAs, OutcomeAsks, outcome_by}
use Rattle.compose_finish.proofs.PiecesFit.{pieces_fit, pieces_places}
use Rattle.compose_finish.proofs.PlacesFlat.{places_all}
use Rattle.compose_finish.proofs.FinishSteps.{legend_short, lists_short, nothing_short, composed_all, refused_finished, flat-table}

right_most : (m i : ℕ) (js : List Join) → All (λ j. j.right ≤ m) js → right_of i js ≤ m
right_most m i [] a = omega arith
right_most m i (j ∷ js) a = by_test (eqb i j.left) (λ t. rw (t, right_of) a.0) (λ t. rw (t, right_of) (right_most m i js a.1))

all_map : {A : Type 0} {P Q : A → Type 0} → ((x : A) → P x → Q x) → (xs : List A) → All P xs → All Q xs
all_map f [] a = tt
all_map f (x ∷ xs) a = (f x a.0, all_map f xs a.1)

-- with the settings g
module _ (g : Settings) (s es w : List ℕ) (k j : ℕ) (left right overs : List ℕ) (a : Joined g s es w k j left right overs) where
  open tray_slips s es use {ss, K}

  abbrev C : Composing
  C = whole g ss

  abbrev counts : List ℕ → Bool
  counts = counted g.least

  walked : AfterWalk g s es w k j
  walked = a.walked

  few_ends : length es ≤ max_slips
  few_ends = (accepted_tells s es walked.tray).few

  count_joins : length (joins_in w j) ≡ j
  count_joins = length-map (up_from 0 j) (join_in w) ∙ length-up_from 0 j

  count_kept : k ≡ length K
  count_kept = sym (table-length w KEPT k (omega (arith, walked.room, walked.few_kept))) ∙ ap length walked.kept-is

  kept_at : (i : ℕ) → i < k → (1 ≤ cell w KEPT i) × (cell w KEPT i ≤ length es)
  kept_at i h =
      let size : length (kept_in w k) ≡ k = table-length w KEPT k (omega (arith, walked.room, walked.few_kept)) in
      let m : In (get_or (kept_in w k) i 0) K =
      subst (λ (l : List ℕ). In (get_or (kept_in w k) i 0) l) walked.kept-is (get_or_in 0 (kept_in w k) i (omega (arith, size))) in
      rw (← (table_at w KEPT k i h)) (kept_real s es walked.tray (get_or (kept_in w k) i 0) m)

  first-kept : take k (table w KEPT max_slips) ≡ K
  first-kept = table-take w KEPT k max_slips walked.few_kept ∙ walked.kept-is

  small : (i : ℕ) → right_of i (joins_in w j) ≤ max_slips
  small i =
      rw walked.joins_are
      (right_most max_slips i (joins_of C)
      (all_map (λ e h. omega (arith, few_ends, (kept_real s es walked.tray e.right h.1).1)) (joins_of C) (plain_in counts ss K)))

  here-pieces : pieces_here w k j left right overs ≡ pieces_for counts ss (numbers ss)
  here-pieces =
      let n = a.neighbours in
      let t : j + 1 ≡ suc (length (joins_in w j)) = omega (arith, count_joins) in
      rw (first-kept, t)
      (pieces-by (joins_in w j) left right overs n.left_is n.right_is n.overlap-is small K
      (λ i h. let r = kept_real s es walked.tray i h in (r.0, omega (arith, few_ends, r.1)))
      ∙ rw walked.joins_are)

  can_stage : StageAsks w k j left right overs
  can_stage =
      let n = a.neighbours in
      record {
        room = walked.room;
        few_joins = walked.few_joins;
        asks =
            record {
              enough = omega (arith, table-length w KEPT max_slips (omega (arith, walked.room)), walked.few_kept);
              real = λ i h. let q = kept_at i h in let e =
                  table_at w KEPT max_slips i (omega (arith, walked.few_kept)) in (omega (arith, q.0), omega (arith, q.1, few_ends));
              lefts = n.lefts;
              rights = n.rights;
              overlaps = n.overlaps;
              right_small = λ i h. rw (n.right_is i h) (small (suc i));
              cells = rw (length-replicate {A = ℕ} (2 * max_slips) 0) (omega arith);
              room = rw here-pieces (omega (arith, pieces_count s es walked.tray g, kept_few s es walked.tray));
            };
      }

  saves : saved (joins_in w j) + length (legend_of C) ≡ total ss (kept_in w k)
  saves = rw (walked.joins_are, walked.kept-is) (sym (greedy_of (whole g ss) (numbers_real ss)).saving)

  can_count : CountAsks s es w k j
  can_count =
      record {
        room = walked.room;
        tray = walked.tray;
        few_kept = walked.few_kept;
        real = kept_at;
        few_joins = walked.few_joins;
        saves = omega (arith, saves);
      }

  module _ (c : LetterCounts) (h : LetterCountsAre s es w k j c) where
    letters_are : c.letters ≡ kept_letters C
    letters_are = h.letters_are ∙ rw walked.kept-is

    saved_are : c.saved ≡ saved (joins_of C)
    saved_are = h.saved_are ∙ rw walked.joins_are

    need_is : c.need ≡ length (legend_of C)
    need_is = omega (arith, h.need_is, h.letters_are, h.saved_are, saves)

    small_need : c.need < 2 ^ 32
    small_need = omega (arith, need_is, legend_small s es walked.tray g)

    can_answer : OutcomeAsks (length es) k c j
    can_answer =
        record {
          slips_fit = omega (arith, few_ends);
          kept_fit = omega (arith, walked.few_kept);
          letters_fit = omega (arith, letters_are, kept_small s es walked.tray);
          saved_fit = omega (arith, h.need_is, letters_are, kept_small s es walked.tray);
          need_fit = small_need;
          joins_fit = omega (arith, walked.few_joins);
        }

    count_plain : j ≡ length (joins_of C)
    count_plain = sym count_joins ∙ ap length walked.joins_are

    module _ (l : List ℕ) (jr pr : ℕ) where
      last_legend : (r : Composed) → length l < c.need → r ≡ refused_by (refusal 8 c.need) → Finished C w w l l jr pr r
      last_legend r q e =
          refused_finished C l w jr pr (refusal 8 c.need) 7 c.need r refl
          (legend_short C (length l) jr pr (omega (arith, need_is)) ∙ ap (refusal 8) (sym need_is)) e

      module _ (q : c.need ≤ length l) where
        short_list : (r : Composed) → ltb jr (length (joins_of C)) || ltb pr (length (numbers ss)) ≡ true → r ≡ refused_by (refusal 9 j)
            → Finished C w w l l jr pr r
        short_list r t e =
            refused_finished C l w jr pr (refusal 9 j) 8 j r refl
            (lists_short C (length l) jr pr (omega (arith, need_is)) t ∙ ap (refusal 9) (sym count_plain)) e

        last_lists : (r : Composed) → (jr < j) ⊎ ((j ≤ jr) × (pr < length es)) → r ≡ refused_by (refusal 9 j) → Finished C w w l l jr pr r
        last_lists r (inl u) e =
            short_list r (or_left (ltb jr (length (joins_of C))) _ (lt-ltb jr (length (joins_of C)) (omega (arith, count_plain)))) e
        last_lists r (inr (v, u)) e =
            short_list r (or_right (ltb jr (length (joins_of C))) _ (lt-ltb pr (length (numbers ss)) (omega (arith, numbers_count s es)))) e

        module _ (xs : List ℕ) (p : PiecesStaged w k j left right overs xs) where
          pieces_are : pieces_in xs 0 k ≡ pieces_for counts ss (numbers ss)
          pieces_are =
              subst (λ (n : ℕ). pieces_in xs 0 n ≡ pieces_for counts ss (numbers ss)) (pieces_count s es walked.tray g ∙ sym count_kept)
              (rw here-pieces at p.are)

          can_write : WritingAsks s es w l xs k c.need
          can_write =
              record {
                room = walked.room;
                pieces =
                    record {
                      tray = walked.tray;
                      pairs = omega (arith, p.size, walked.few_kept);
                      fits = rw pieces_are (pieces_fit g s es walked.tray);
                      places = rw pieces_are (pieces_places g s es walked.tray);
                      short = rw pieces_are (omega (arith, legend_small s es walked.tray g));
                    };
                need_is = need_is ∙ rw pieces_are;
                space = q;
              }

          all_places_lem : (w' : List ℕ) → PlacesWritten s es w w' xs k → table w' PLACES (place_cells * length es) ≡ flat_places C
          all_places_lem w' d =
              sym (table-take w' PLACES (place_cells * length es) all_places (omega (arith, few_ends)))
              ∙ rw (d.places_are, pieces_are, ← (slips_count s es)) (places_all g s es walked.tray)

          last_good : (w' l' : List ℕ) (r : Composed) → j ≤ jr → length es ≤ pr → Written s es w w' l l' xs k → r ≡ outcome_by (length es) k c j →
              Finished C w w' l l' jr pr r
          last_good w' l' r u v d o =
              let f = nothing_short C (length l) jr pr (omega (arith, need_is)) (omega (arith, count_plain)) (omega (arith, numbers_count s es)) in
              let (answer, legend) = composed_all C l (first_row (room_rows C (length l) jr pr)) f in
              let b = d.placed.below in
              record {
                answer-is = o ∙ rw (← (numbers_count s es), count_kept, letters_are, saved_are, need_is, count_plain) answer;
                legend_is = d.legend_is ∙ rw pieces_are legend;
                same = b.same;
                joins_are = λ z. rw o
                    (table_same w w' JOINS (join_cells * j) b.same (λ i o. b.cells (JOINS + i) (omega (arith, walked.few_joins)))
                    ∙ flat-table w walked.room j walked.few_joins
                    ∙ rw walked.joins_are);
                places_are = λ z. rw o (all_places_lem w' d.placed);
              }

-- with some settings what is done can be done; with any that made the joins it is right
module _ (s es w : List ℕ) (k j : ℕ) (left right overs : List ℕ) (A : SomeJoined s es w k j left right overs) where
  pub count_can : CountAsks s es w k j
  count_can = can_count A.settings s es w k j left right overs A.joined

  pub joins_fit : j < 2 ^ 32
  joins_fit = omega (arith, A.joined.walked.few_joins)

  pub stage_can : StageAsks w k j left right overs
  stage_can = can_stage A.settings s es w k j left right overs A.joined

  module _ (c : LetterCounts) (h : LetterCountsAre s es w k j c) where
    pub need_fits : c.need < 2 ^ 32
    need_fits = small_need A.settings s es w k j left right overs A.joined c h

    pub outcome_can : OutcomeAsks (length es) k c j
    outcome_can = can_answer A.settings s es w k j left right overs A.joined c h

    module _ (l : List ℕ) (jr pr : ℕ) where
      pub ends_legend : (r : Composed) → length l < c.need → r ≡ refused_by (refusal 8 c.need) → FinishedAs s es w w l l k j left right overs jr pr r
      ends_legend r q e = record { same = refl; for_any = λ g a. last_legend g s es w k j left right overs a c h l jr pr r q e }

      module _ (q : c.need ≤ length l) where
        pub ends_lists : (r : Composed) → (jr < j) ⊎ ((j ≤ jr) × (pr < length es)) → r ≡ refused_by (refusal 9 j) →
            FinishedAs s es w w l l k j left right overs jr pr r
        ends_lists r u e = record { same = refl; for_any = λ g a. last_lists g s es w k j left right overs a c h l jr pr q r u e }

        module _ (xs : List ℕ) (p : PiecesStaged w k j left right overs xs) where
          pub write_can : WritingAsks s es w l xs k c.need
          write_can = can_write A.settings s es w k j left right overs A.joined c h l jr pr q xs p

          pub ends_good : (w' l' : List ℕ) (r : Composed) → j ≤ jr → length es ≤ pr → Written s es w w' l l' xs k → r ≡ outcome_by (length es) k c j →
              FinishedAs s es w w' l l' k j left right overs jr pr r
          ends_good w' l' r u v d o =
              record {
                same = d.placed.below.same;
                for_any = λ g a. last_good g s es w k j left right overs a c h l jr pr q xs p w' l' r u v d o;
              }
