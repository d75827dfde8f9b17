-- The loop over the second tray's slips.
--   Found ws xs ls i count total ns == the new ones of the first i slips of xs, whose letters are ls, are the first `count` numbers of ns, and have `total`
--                                      letters
--   found_new, found_old, found_all == after a slip that is new or is not, at the end
use mathlib.Core.Path.{◌≡◌, sym, ◌∙◌, ap}
use mathlib.Core.Bool.{Bool, true, false}
use mathlib.Core.List.{List, [], ◌∷◌, ◌++◌, map-append, append_assoc}
use Prim.Native.Nat.{ℕ, suc, ◌+◌, ◌-◌, ◌*◌, ◌^◌, ◌≤◌, ◌<◌}
use native.Mathlib.Numerals.{add-one}
use native.Mathlib.Omega.{arith}
use borrow.Author.Tests.{not-true, not-false}
use lib.ListN.{length, take, set, length-append, length-set}
use lib.Seq.{take_all, take-suc, take-suc-set}
use Rattle.words.specs.Lists.{any, All}
use Rattle.words.specs.Words.{same}
use Rattle.words.proofs.Orders.{same_trans}
use Rattle.words.proofs.Sums.{all_append}
use Rattle.trays.specs.Limits.{max_slips, max_slip}
use Rattle.trays.specs.Slips.{slip, slips_of, only}
use Rattle.trays.specs.Faults.{tray_fault}
use Rattle.trays.specs.Written.{letters_of}
use Rattle.trays.proofs.Accepted.{accepted_tells, slips_count}
use Rattle.trays.proofs.Spans.{accepted_spanned}
use Rattle.trays.proofs.WrittenSlips.{letters_snoc}
use Rattle.merge_rule.specs.Merging.{merged, labelled}
use Rattle.merge_rule.proofs.Labelled.{labelled_count}
use Rattle.merge_rule.proofs.Merged.{merged_equal, merged_new}
use Rattle.merge_equals.specs.Equals.{is_new, NewSlips}

pub record Found (ws xs ls : List (List ℕ)) (i count total : ℕ) (ns : List ℕ) : Type 0 where
  pub upto : i ≤ length xs
  pub few : count ≤ i
  pub size : length ns ≡ max_slips
  pub real : All (λ k. (1 ≤ k) × (k ≤ length xs)) (take count ns)
  pub slips_are : merged same ws (take i xs) ≡ ws ++ only xs (take count ns)
  pub letters_are : total ≡ length (letters_of (only ls (take count ns)))
  pub bound : total ≤ max_slip * i

module _ (s es cs t fs ds : List ℕ) (acc : (tray_fault t fs).number ≡ 0) where
  abbrev ws : List (List ℕ)
  ws = labelled (slips_of s es) cs

  abbrev xs : List (List ℕ)
  xs = labelled (slips_of t fs) ds

  abbrev ls : List (List ℕ)
  ls = slips_of t fs

  many : length xs ≡ length fs
  many = labelled_count (slips_of t fs) ds ∙ slips_count t fs

  few_slips : length fs ≤ max_slips
  few_slips = (accepted_tells t fs acc).few

  -- the number of slip i + 1 fits a cell, and there is room for it
  module _ (i : ℕ) (h : i < length fs) where
    pub found_fits : (i' : ℕ) → i' ≡ i + 1 → i' < 2 ^ 16
    found_fits i' e = omega (arith, few_slips)

    pub found_room : (count total : ℕ) (ns : List ℕ) → Found ws xs ls i count total ns → count < max_slips
    found_room count total ns F = omega (arith, F.few, few_slips)

  module _ (i count total : ℕ) (ns : List ℕ) (F : Found ws xs ls i count total ns) (h : i < length fs) (i' : ℕ) (e : i' ≡ i + 1) where
    up : i' ≡ suc i
    up = e ∙ add-one i

    next : take i' xs ≡ take i xs ++ (slip xs i' ∷ [])
    next = rw up (take-suc xs i [] (omega (arith, many)))

    before : take (i' - 1) xs ≡ take i xs
    before = let u : i' - 1 ≡ i = omega arith in rw u

    pub found_old : (b : Bool) → b ≡ is_new ws xs i' → b ≡ false → Found ws xs ls i' count total ns
    found_old b q f =
        let equal : any (same (slip xs i')) (ws ++ take i xs) ≡ true =
        not-false (any (same (slip xs i')) (ws ++ take i xs)) (sym (rw before at q) ∙ f) in
        record {
          upto = omega (arith, many);
          few = omega (arith, F.few);
          size = F.size;
          real = F.real;
          slips_are = rw next (merged_equal same same_trans ws (take i xs) (slip xs i') equal ∙ F.slips_are);
          letters_are = F.letters_are;
          bound = omega (arith, F.bound);
        }

    module _ (b : Bool) (q : b ≡ is_new ws xs i') (y : b ≡ true) (part : List ℕ) (p : part ≡ slip ls i') where
      part_short : length part ≤ max_slip
      part_short = rw p ((accepted_spanned t fs acc).short i' (omega arith) (omega arith))

      pub found_new : (k count' total' : ℕ) → k ≡ i' → count' ≡ count + 1 → total' ≡ total + length part
          → Found ws xs ls i' count' total' (set ns count k)
      found_new k count' total' c d g =
          let new : any (same (slip xs i')) (ws ++ take i xs) ≡ false =
          not-true (any (same (slip xs i')) (ws ++ take i xs)) (sym (rw before at q) ∙ y) in
          let more : take count' (set ns count k) ≡ take count ns ++ (i' ∷ []) =
          rw (d, add-one count, c) (take-suc-set ns count i' (omega (arith, F.size, F.few, few_slips))) in
          let chosen : only xs (take count' (set ns count k)) ≡ only xs (take count ns) ++ (slip xs i' ∷ []) =
          rw more (map-append (slip xs) (take count ns) (i' ∷ [])) in
          let plain : only ls (take count' (set ns count k)) ≡ only ls (take count ns) ++ (slip ls i' ∷ []) =
          rw more (map-append (slip ls) (take count ns) (i' ∷ [])) in
          record {
            upto = omega (arith, many);
            few = omega (arith, F.few);
            size = length-set ns count k ∙ F.size;
            real = rw more (all_append (λ j. (1 ≤ j) × (j ≤ length xs)) (take count ns) (i' ∷ []) F.real ((omega arith, omega (arith, many)), tt));
            slips_are =
                rw (next, chosen)
                (merged_new same same_trans ws (take i xs) (slip xs i') new
                ∙ ap (λ z. z ++ (slip xs i' ∷ [])) F.slips_are ∙ append_assoc ws (only xs (take count ns)) (slip xs i' ∷ []));
            letters_are = rw (plain, letters_snoc, length-append, g, F.letters_are, p);
            bound = omega (arith, F.bound, part_short);
          }

      pub found_total : total + length part < 2 ^ 64
      found_total = omega (arith, F.bound, part_short, few_slips)

  pub found_all : (i count total : ℕ) (ns : List ℕ) → Found ws xs ls i count total ns → length fs ≤ i
      → NewSlips s es cs t fs ds (record { count = count; letters = total; slips = ns })
  found_all i count total ns F h =
      let whole : take i xs ≡ xs = take_all i xs (omega (arith, many)) in
      record {
        few = omega (arith, F.few, F.upto, many);
        size = F.size;
        real = rw many at F.real;
        slips_are = rw whole at F.slips_are;
        letters_are = F.letters_are;
        bound = omega (arith, F.bound, F.upto, many);
      }
