-- Every number that is printed fits: the claims of specs/Fits.antt.
--   compose_fits, find_fits  == the claims
--   NAME-few                 == NAME gives at most so many
-- The slips of a join are kept slips, and an overlap is within its right slip. At one place of a text each slip ends at most once.
use mathlib.Core.Path.{◌≡◌}
use mathlib.Core.List.{List, [], ◌∷◌, map}
use Prim.Native.Nat.{ℕ, ◌*◌, ◌≤◌}
use native.Mathlib.Nat.{mul-suc}
use native.Mathlib.Omega.{arith}
use lib.ListN.{length, take, length-append, length-map}
use Rattle.words.specs.Lists.{each, up_from}
use Rattle.words.proofs.Runs.{length-up_from}
use Rattle.words.proofs.Members.{In, in_up_from}
use Rattle.words.proofs.Maps.{all_each}
use Rattle.words.proofs.Sums.{All, all_in, all_at, held_in}
use Rattle.words.proofs.Overlaps.{overlap_for-fits}
use Rattle.trays.specs.declared.Settings.{Settings}
use Rattle.trays.specs.Limits.{max_slips, max_text}
use Rattle.trays.specs.Slips.{slips_of, slip, numbers}
use Rattle.trays.specs.Aside.{counted}
use Rattle.trays.specs.Faults.{tray_fault}
use Rattle.trays.proofs.Accepted.{accepted_tells, slips_count, numbers_count}
use Rattle.trays.proofs.Spans.{accepted_spanned}
use Rattle.greedy.specs.Joins.{Join}
use Rattle.greedy.specs.Orders.{weight}
use Rattle.greedy.specs.Composing.{whole, joins_of}
use Rattle.greedy.proofs.Chains.{Arc}
use Rattle.greedy.proofs.GreedyLegends.{greedy_of}
use Rattle.greedy.proofs.Chosen.{numbers_real}
use Rattle.matching.specs.Occurrences.{Occurrence, occurrence, ending_at, occurrences}
use Rattle.matching.proofs.States.{few_moves}
use Rattle.matching.proofs.Finds.{in_ending}
use Rattle.trie_outputs.proofs.Outs.{ending_most}
use Rattle.greedy.proofs.KeptSizes.{tray_slips, joins_rep, joins_fewer, kept_real, kept_few, kept_small, legend_small}
use Rattle.sheet_sizes.specs.Fits.{JoinFits, ComposeFits, OccurrenceFits, FindFits}
use Rattle.greedy.proofs.Placed.{place-most}

module _ (g : Settings) (s es : List ℕ) (acc : (tray_fault s es).number ≡ 0) where
  open tray_slips s es use {ss, K}

  few : length es ≤ max_slips
  few = (accepted_tells s es acc).few

  join-fits : (j : Join) → Arc (weight (counted g.least) ss) K j → JoinFits j
  join-fits j (_, _, l, r, o) =
      let (_, a) = kept_real s es acc j.left (held_in j.left K l) in
      let (p, b) = kept_real s es acc j.right (held_in j.right K r) in (
        omega (arith, few),
        omega (arith, few),
        omega (arith, o, overlap_for-fits (counted g.least) (slip ss j.left) (slip ss j.right), (accepted_spanned s es acc).short j.right p b),
      )

  pub compose_fits : ComposeFits (whole g ss)
  compose_fits =
      let n : length ss ≡ length es = slips_count s es in
      let real : (i : ℕ) → In i (numbers ss) → (1 ≤ i) × (i ≤ length es) = λ i m. omega (arith, in_up_from 1 (length ss) m) in
      record {
        slips = omega (arith, few, numbers_count s es);
        kept_slips = kept_few s es acc;
        letters = kept_small s es acc;
        saved-letters = omega (arith, kept_small s es acc, (greedy_of (whole g ss) (numbers_real ss)).saving);
        legend = legend_small s es acc g;
        numbers = λ i m. omega (arith, few, real i m);
        lengths = λ i m. (accepted_spanned s es acc).short i (real i m).0 (real i m).1;
        places = λ i m. omega (arith, legend_small s es acc g, place-most s es acc g i (real i m).0 (real i m).1);
        joins =
            all_in JoinFits (joins_of (whole g ss))
            (λ j m. join-fits j (all_at (Arc (weight (counted g.least) ss) K) (joins_of (whole g ss)) j (joins_rep s es acc g).1.arcs m));
        count = joins_fewer s es acc g;
      }

-- occurrences: at each place at most one of each slip
each_few : {A B : Type 0} (f : A → List B) (n : ℕ) (xs : List A) → ((x : A) → length (f x) ≤ n) → length (each f xs) ≤ n * length xs
each_few f n [] h = omega arith
each_few f n (x ∷ xs) h =
    rw (length-append (f x) (each f xs), mul-suc n (length xs)) (omega (arith, h x, each_few f n xs h))

all_map : {A B : Type 0} (P : B → Type 0) (f : A → B) (xs : List A) → All (λ x. P (f x)) xs → All P (map f xs)
all_map P f [] p = tt
all_map P f (x ∷ xs) p = (p.0, all_map P f xs p.1)

module _ (ss : List (List ℕ)) (few : length ss ≤ max_slips) (t : List ℕ) (small : length t ≤ max_text) where
  at_place : ℕ → List Occurrence
  at_place e = map (occurrence e) (ending_at ss (take e t))

  place_few : (e : ℕ) → length (at_place e) ≤ max_slips
  unfolding at_place
  place_few e =
      rw (length-map (ending_at ss (take e t)) (occurrence e))
      (omega (arith, ending_most ss (numbers ss) (take e t), length-up_from 1 (length ss)))

  occurrences_few : length (occurrences ss t) ≤ max_slips * max_text
  unfolding at_place
  occurrences_few =
      omega (arith, each_few at_place max_slips (up_from 1 (length t)) place_few, length-up_from 1 (length t))

  occurrences_fit : All OccurrenceFits (occurrences ss t)
  occurrences_fit =
      all_each (λ e. e ≤ max_text) OccurrenceFits (λ e. map (occurrence e) (ending_at ss (take e t)))
      (λ e h. all_map OccurrenceFits (occurrence e) (ending_at ss (take e t)) (all_in (λ i. OccurrenceFits (occurrence e i)) (ending_at ss (take e t))
      (λ i m. let r = in_up_from 1 (length ss) (in_ending ss (numbers ss) (take e t) m).0 in (h, omega (arith, r.1)))))
      (up_from 1 (length t)) (all_in (λ e. e ≤ max_text) (up_from 1 (length t)) (λ e m. let r = in_up_from 1 (length t) m in omega (arith, r.1)))

pub find_fits : (s es t : List ℕ) → (tray_fault s es).number ≡ 0 → length t ≤ max_text → FindFits (slips_of s es) t
find_fits s es t acc small =
    let few : length (slips_of s es) ≤ max_slips = omega (arith, slips_count s es, (accepted_tells s es acc).few) in
    record {
      moves_few = omega (arith, few_moves s es t acc);
      found = occurrences_fit (slips_of s es) few t small;
      count = occurrences_few (slips_of s es) few t small;
    }
