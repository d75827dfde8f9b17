-- Two trays merged: what is claimed, and the rows that the code decides by.
--   side_legend       == the legend of a side is the same of labelled slips merged and of the long list
--   from-merged       == what can be read from the slips merged can be read from those of the two lists
--   outcome_sides     == 22 never speaks of the outcome
--   long_slips        == the slips of the long tray are those of the first tray and, after them, those of the second
--   same_legend_of    == where the long tray is accepted, so is the outcome, and each side's legend is that of the long tray's side
--   one_or_four       == of two accepted trays the outcome can fail by 1 or 4 alone
--   merge_fault_lem       == so its other rows need not be asked, whatever the two trays are
-- Equal labelled slips are of equal side. So the law of slips merged (SameLegend) holds of those of one side, a slip's letters being what comes after its
-- side. What rows 2, 3, 6 and 22 ask of each slip holds of the slips of both trays, and so of those written. These are also chosen from the slips of the long
-- tray, so there are no more of them, with no more letters: where 1 and 4 are silent of the long tray, they are silent of the outcome.
use mathlib.Core.Path.{◌≡◌, refl, sym, ap, ap₂, ◌∙◌}
use mathlib.Core.Bool.{Bool, false, not}
use mathlib.Core.List.Memᴰ
use mathlib.Core.List.{List, [], ◌∷◌, ◌++◌, map, map-append}
use Prim.Native.Nat.{ℕ}
use native.Mathlib.Omega.{arith}
use borrow.Author.Tests.{eq-eqb}
use lib.Dec.{eqb}
use lib.ListN.{length, length-map}
use Rattle.words.specs.Lists.{any, head_or, tail_of}
use Rattle.words.specs.Words.{same}
use Rattle.words.proofs.Members.{In, any_append, any_none, none_any}
use Rattle.words.proofs.Sums.{All, all_append, all_in, all_at}
use Rattle.trays.specs.Slips.{slips_of, only}
use Rattle.trays.specs.Aside.{counted}
use Rattle.trays.specs.Faults.{accepted, first_row, tray_rows, tray_fault}
use Rattle.trays.specs.Written.{letters_of, ends_of, size_rows}
use Rattle.trays.specs.Sides.{is_side, of_side, sides_row, sided_tray_rows}
use Rattle.trays.proofs.Accepted.{accepted_tells, slips_count}
use Rattle.trays.proofs.Rows.{or_zero, both_silent, rows_when}
use Rattle.trays.proofs.SidedTrays.{sides_tell, rows-accepted}
use Rattle.trays.proofs.WrittenSlips.{slips_written, length-ends}
use Rattle.trays.proofs.WrittenTrays.{slips_append, Good, slips_good, written-rows}
use Rattle.greedy.specs.Legends.{legend_for}
use Rattle.greedy.proofs.Chosen.{only-accepted}
use Rattle.merge_rule.specs.Merging.{merged, labelled, letters_among, sides_among, merged_sides, lent_row, merge_fault}
use Rattle.merge_rule.specs.Claims.{long_ends, SameLegend, OneOrFour}
use Rattle.merge_rule.proofs.Merged.{merged_in}
use Rattle.merge_rule.proofs.Labelled.{letters-labelled, sides_labelled, side_members}
use Rattle.merge_rule.proofs.SameLegend.{picked_of, picked_of_real, merged-only, only-map, legend_merged}

pub side_legend : (counts : List ℕ → Bool) (ws xs : List (List ℕ)) (b : ℕ) →
    legend_for counts (letters_among (merged same ws xs)) (of_side (sides_among (merged same ws xs)) b)
    ≡ legend_for counts (letters_among (ws ++ xs)) (of_side (sides_among (ws ++ xs)) b)
side_legend counts ws xs b =
    rw (side_members (merged same ws xs) b, side_members (ws ++ xs) b) (legend_merged ws xs counts tail_of refl (λ z. eqb (head_or 0 z) b))

from-merged : {B : Type 0} (f : List ℕ → B) (ws xs : List (List ℕ)) {y : B} → In y (map f (merged same ws xs)) → In y (map f (ws ++ xs))
from-merged f ws xs m = let (z, i, e) = Memᴰ.of_map f (merged same ws xs) m in rw (← e) (Memᴰ.map f (merged_in same ws xs i))

module _ (s es cs t fs ds : List ℕ) where
  abbrev first : List (List ℕ)
  first = labelled (slips_of s es) cs

  abbrev second : List (List ℕ)
  second = labelled (slips_of t fs) ds

  abbrev outcome : List (List ℕ)
  outcome = merged_sides s es cs t fs ds

  both_letters : letters_among (first ++ second) ≡ slips_of s es ++ slips_of t fs
  both_letters = rw (map-append, letters-labelled (slips_of s es) cs, letters-labelled (slips_of t fs) ds)

  module _ (p : (sides_row es cs).number ≡ 0) (q : (sides_row fs ds).number ≡ 0) where
    both_sides : sides_among (first ++ second) ≡ cs ++ ds
    both_sides =
        rw (
          map-append,
          sides_labelled (slips_of s es) cs ((sides_tell es cs p).0 ∙ sym (slips_count s es)),
          sides_labelled (slips_of t fs) ds ((sides_tell fs ds q).0 ∙ sym (slips_count t fs)),
        )

    sides_good : any (λ b. not (is_side b)) (sides_among outcome) ≡ false
    sides_good =
        let bad : ℕ → Bool = λ b. not (is_side b) in
        let none : any bad (cs ++ ds) ≡ false = rw (any_append bad cs ds, (sides_tell es cs p).1, (sides_tell fs ds q).1) in
        any_none bad (sides_among outcome) (λ b m. none_any bad (cs ++ ds) none b (rw both_sides at (from-merged (head_or 0) first second m)))

    pub outcome_sides : (sides_row (ends_of (letters_among outcome)) (sides_among outcome)).number ≡ 0
    outcome_sides =
        let long : length (sides_among outcome) ≡ length (ends_of (letters_among outcome)) =
        omega (arith, length-map outcome (head_or 0), length-ends 0 (letters_among outcome), length-map outcome tail_of) in
        rw (eq-eqb (length (sides_among outcome)) (length (ends_of (letters_among outcome))) long, sides_good)

  module _ (acc : (tray_fault s es).number ≡ 0) where
    pub long_slips : slips_of (s ++ t) (long_ends s es fs) ≡ slips_of s es ++ slips_of t fs
    long_slips = let a = accepted_tells s es acc in slips_append s es t fs a.rise a.reach

    long_letters : letters_among (first ++ second) ≡ slips_of (s ++ t) (long_ends s es fs)
    long_letters = both_letters ∙ sym long_slips

    letters-chosen : letters_among outcome ≡ only (slips_of (s ++ t) (long_ends s es fs)) (picked_of first second)
    letters-chosen =
        ap letters_among (merged-only first second)
        ∙ (only-map tail_of refl (first ++ second) (picked_of first second) ∙ ap (λ zs. only zs (picked_of first second)) long_letters)

    outcome_tray : (tray_fault (s ++ t) (long_ends s es fs)).number ≡ 0 → (tray_fault (letters_of (letters_among outcome)) (ends_of (letters_among outcome))).number ≡ 0
    outcome_tray long =
        let n : length (slips_of (s ++ t) (long_ends s es fs)) ≡ length (first ++ second) = ap length (sym long_letters) ∙ length-map (first ++ second) tail_of in
        rw letters-chosen (only-accepted (s ++ t) (long_ends s es fs) (picked_of first second) long (rw n (picked_of_real first second)))

    outcome_good : (tray_fault t fs).number ≡ 0 → All Good (letters_among outcome)
    outcome_good two =
        let both : All Good (slips_of s es ++ slips_of t fs) = all_append Good (slips_of s es) (slips_of t fs) (slips_good s es acc) (slips_good t fs two) in
        all_in Good (letters_among outcome) (λ x m. all_at Good (slips_of s es ++ slips_of t fs) x both (rw both_letters at (from-merged tail_of first second m)))

pub same_legend_of : SameLegend
same_legend_of g s es cs t fs ds acc sides long =
    let m = merged_sides s es cs t fs ds in
    let counts = counted g.least in
    record {
      outcome_accepted =
          record { tray = outcome_tray s es cs t fs ds acc.tray long; sides = outcome_sides s es cs t fs ds acc.sides sides };
      legend_is =
          rw (slips_written (letters_among m))
          (side_legend counts (labelled (slips_of s es) cs) (labelled (slips_of t fs) ds) g.side
          ∙ ap₂ (λ xs bs. legend_for counts xs (of_side bs g.side)) (long_letters s es cs t fs ds acc.tray)
          (both_sides s es cs t fs ds acc.sides sides));
    }

pub one_or_four : OneOrFour
unfolding tray_fault
one_or_four s es cs t fs ds one two =
    let m = merged_sides s es cs t fs ds in
    let ms = letters_among m in
    let last = sides_row (ends_of ms) (sides_among m) in
    rows_when (tray_rows (letters_of ms) (ends_of ms)) (last ∷ []) [] (λ p. or_zero last accepted (outcome_sides s es cs t fs ds one.sides two.sides))
    ∙ written-rows ms (outcome_good s es cs t fs ds one.tray two.tray)

pub merge_fault_lem : (a b d : ℕ) (s es cs t fs ds : List ℕ) →
    merge_fault a b d s es cs t fs ds
    ≡ first_row (lent_row a b d ∷ (sided_tray_rows s es cs ++ (sided_tray_rows t fs ds ++ size_rows (letters_among (merged_sides s es cs t fs ds)))))
unfolding merge_fault
merge_fault_lem a b d s es cs t fs ds =
    let m = merged_sides s es cs t fs ds in
    let ms = letters_among m in
    let one = sided_tray_rows s es cs in
    let two = sided_tray_rows t fs ds in
    let out = sided_tray_rows (letters_of ms) (ends_of ms) (sides_among m) in
    rows_when (lent_row a b d ∷ one) (two ++ out) (two ++ size_rows ms)
    (λ p. rows_when two out (size_rows ms)
    (λ q. one_or_four s es cs t fs ds (rows-accepted s es cs (both_silent (lent_row a b d) (first_row one) p).1) (rows-accepted t fs ds q)))
