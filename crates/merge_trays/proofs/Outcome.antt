-- The slips and sides of the outcome, from the numbers of the new slips.
--   slips_outcome, sides_outcome == what is written of labelled slips: their letters, and their sides
--   letters-merged, sides_merged_lem == so of two trays merged
use mathlib.Core.Path.{◌≡◌, refl, sym, ap, ◌∙◌}
use mathlib.Core.List.{List, ◌++◌, map, map-append}
use Prim.Native.Nat.{ℕ}
use lib.ListN.{length}
use Rattle.words.specs.Lists.{head_or, tail_of}
use Rattle.words.proofs.Sums.{all_in}
use Rattle.words.proofs.Maps.{map_same}
use Rattle.trays.specs.Slips.{slips_of, slip, only}
use Rattle.trays.specs.Sides.{side_of}
use Rattle.trays.proofs.Accepted.{slips_count}
use Rattle.merge_rule.specs.Merging.{labelled, letters_among, sides_among, merged_sides}
use Rattle.merge_rule.proofs.Labelled.{letters-labelled, sides_labelled, side_at}
use Rattle.merge_rule.proofs.SameLegend.{only-map}
use Rattle.merge_equals.specs.declared.Fresh.{Fresh}
use Rattle.merge_equals.specs.Equals.{NewSlips}
use Rattle.merge_trays.specs.Steps.Merging.{chosen, slips_merged, sides_merged}

module _ (xs ys : List (List ℕ)) (cs ds N : List ℕ) where
  abbrev zs : List (List ℕ)
  zs = labelled ys ds

  slips_outcome : letters_among (labelled xs cs ++ only zs N) ≡ xs ++ only ys N
  slips_outcome = rw (map-append, letters-labelled xs cs, only-map tail_of refl zs N, letters-labelled ys ds)

  sides_outcome : length cs ≡ length xs → length ds ≡ length ys → sides_among (labelled xs cs ++ only zs N) ≡ cs ++ map (side_of ds) N
  sides_outcome c d =
      let side : (i : ℕ) → head_or 0 (slip zs i) ≡ side_of ds i = λ i. sym (side_at zs i) ∙ ap (λ l. side_of l i) (sides_labelled ys ds d) in
      rw (map-append, sides_labelled xs cs c, map_same (slip zs) (λ i. Unit {0}) (side_of ds) (head_or 0) (λ i p. side i) N (all_in _ N (λ i m. tt)))

module _ (s es cs t fs ds : List ℕ) (new : Fresh) (N : NewSlips s es cs t fs ds new) where
  pub letters-merged : letters_among (merged_sides s es cs t fs ds) ≡ slips_merged s es t fs new
  letters-merged = rw N.slips_are (slips_outcome (slips_of s es) (slips_of t fs) cs ds (chosen new))

  pub sides_merged_lem : length cs ≡ length es → length ds ≡ length fs → sides_among (merged_sides s es cs t fs ds) ≡ sides_merged cs ds new
  sides_merged_lem p q =
      rw N.slips_are
      (sides_outcome (slips_of s es) (slips_of t fs) cs ds (chosen new) (p ∙ sym (slips_count s es)) (q ∙ sym (slips_count t fs)))
