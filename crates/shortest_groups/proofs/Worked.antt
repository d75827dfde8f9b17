-- The table of groups, over any weights w and any table T: how it is filled, group by group, and what it says of the groups of one place more.
--   worked_start  == before the first group, as no group has more than k places
--   worked_skip, worked_group == one group more, of another count or of this one
--   worked_count  == all groups of suc n places done, those of n places follow
--   worked_right  == what is saved behind each place that is left, as it is worked out and read
use mathlib.Core.Path.{◌≡◌, sym, ap, ◌∙◌}
use mathlib.Core.Logic.{inl, inr}
use Prim.Native.Nat.{ℕ, suc, ◌+◌, ◌^◌, ◌≤◌, ◌<◌}
use native.Mathlib.Decide.{ℕ_discrete}
use native.Mathlib.Omega.{arith}
use lib.Count.{ones, ones-le}
use Rattle.shortest_groups.specs.Steps.Marks.{rest_of}
use Rattle.shortest_groups.specs.Steps.Working.{Right, Group, Worked}
use Rattle.shortest_groups.proofs.GroupMarks.{mark-same, mark-ones, mark-below, mark_rest, in_rest}

module _ (w : ℕ → ℕ → ℕ) (k : ℕ) (T : ℕ → ℕ → ℕ) where
  pub worked_start : Worked w k T k 0
  worked_start h l s = absurd (elim s [ inl m ↦ omega (arith, ones-le k h l) | inr m ↦ omega arith ])

  -- a group of another count is passed over
  pub worked_skip : (n g : ℕ) → (ones g ≡ n → ⊥) → Worked w k T n g → Worked w k T n (suc g)
  worked_skip n g ne f h l s =
      elim s [
        | inl m ↦ f h l (inl m)
        | inr m ↦ elim (ℕ_discrete h g) [ yes e ↦ absurd (ne (ap ones (sym e) ∙ m.0)) | no other ↦ f h l (inr (m.0, omega arith)) ]
      ]

  -- a group is filled, and no other has changed
  pub worked_group :
      (n g : ℕ) (U : ℕ → ℕ → ℕ) → ones g ≡ n → Worked w k T n g → ((h a : ℕ) → (h ≡ g → ⊥) → a < k → U h a ≡ T h a)
      → Group w k U g → Worked w k U n (suc g)
  worked_group n g U c f kept new h l s =
      elim (ℕ_discrete h g) [
        | yes e ↦ rw e new
        | no ne ↦ λ a m b. kept h a ne m ∙ f h l (elim s [ inl o ↦ inl o | inr o ↦ inr (o.0, omega arith) ]) a m b
      ]

  pub worked_count : (n m : ℕ) → m ≡ suc n → Worked w k T m (2 ^ k) → Worked w k T n 0
  worked_count n m e f h l s =
      elim s [
        | inl o ↦ elim (ℕ_discrete (ones h) m) [ yes q ↦ f h l (inr (q, l)) | no ne ↦ f h l (inl (omega arith)) ]
        | inr o ↦ absurd (omega arith)
      ]

  pub worked_right : (n m g : ℕ) → Worked w k T n m → g < 2 ^ k → n ≤ ones g → Right w (λ j. T (g + 2 ^ j) j) (rest_of g k)
  worked_right n m g f l h j i =
      let (b, e) = in_rest g k i in
      let more : n < ones (g + 2 ^ j) = omega (arith, mark-ones g j e) in
      rw (← mark_rest g j k e) (f (g + 2 ^ j) (mark-below k g j l b e) (inl more) j b (mark-same g j e))
