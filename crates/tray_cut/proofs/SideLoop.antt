-- The loop that chooses the slips of a side.
--   Picking cs b i count ns == of the first i slips those of side b are the first `count` numbers of ns
--   picking_yes, picking_no == after a slip that is of the side or is not
use mathlib.Core.Path.{◌≡◌, ◌∙◌, ap}
use mathlib.Core.Bool.{Bool}
use mathlib.Core.List.{List, [], ◌∷◌, ◌++◌, append-nil}
use Prim.Native.Nat.{ℕ, suc, ◌+◌, ◌≤◌, ◌<◌}
use native.Mathlib.Numerals.{add-one}
use native.Mathlib.Omega.{arith}
use borrow.Author.Tests.{eq-eqb, ne_eqb}
use lib.Dec.{eqb}
use lib.ListN.{length, get_or, take, set, length-set}
use lib.Seq.{take-suc-set}
use Rattle.words.specs.Lists.{those, up_from}
use Rattle.words.proofs.Members.{those-yes, those_no, those_append}
use Rattle.words.proofs.Runs.{up_from_more}
use Rattle.trays.specs.Limits.{max_slips}
use Rattle.trays.specs.Sides.{side_of}

pub record Picking (cs : List ℕ) (b i count : ℕ) (ns : List ℕ) : Type 0 where
  pub upto : i ≤ length cs
  pub few : count ≤ i
  pub size : length ns ≡ max_slips
  pub slips_are : take count ns ≡ those (λ k. eqb (side_of cs k) b) (up_from 1 i)

module _ (cs : List ℕ) (b : ℕ) (small : length cs ≤ max_slips) where
  module _ (i count : ℕ) (ns : List ℕ) (P : Picking cs b i count ns) where
    module _ (h : i < length cs) (i' : ℕ) (e : i' ≡ i + 1) where
      abbrev t : ℕ → Bool
      t k = eqb (side_of cs k) b

      up : i' ≡ suc i
      up = e ∙ add-one i

      next : those t (up_from 1 i') ≡ those t (up_from 1 i) ++ those t (suc i ∷ [])
      next =
          let number : 1 + i ≡ suc i = omega arith in
          rw up (ap (those t) (up_from_more 1 i) ∙ those_append t (up_from 1 i) ((1 + i) ∷ []) ∙ rw number)

      pub picking_yes : get_or cs i 0 ≡ b → (k count' : ℕ) → k ≡ i' → count' ≡ count + 1 → Picking cs b i' count' (set ns count k)
      picking_yes y k count' c d =
          let more : take count' (set ns count k) ≡ take count ns ++ (suc i ∷ []) =
          rw (d, add-one count, c, up) (take-suc-set ns count (suc i) (omega (arith, P.size, P.few))) in
          let this : those t (suc i ∷ []) ≡ suc i ∷ [] = those-yes t (suc i) [] (eq-eqb (get_or cs i 0) b y) in
          record {
            upto = omega arith;
            few = omega (arith, P.few);
            size = length-set ns count k ∙ P.size;
            slips_are = more ∙ rw (next, this, P.slips_are);
          }

      pub picking_no : (get_or cs i 0 ≡ b → ⊥) → Picking cs b i' count ns
      picking_no n =
          let this : those t (suc i ∷ []) ≡ [] = those_no t (suc i) [] (ne_eqb (get_or cs i 0) b n) in
          record {
            upto = omega arith;
            few = omega (arith, P.few);
            size = P.size;
            slips_are = P.slips_are ∙ rw (next, this, append-nil);
          }
