-- The bounds of typed letters t in an order: both tests fall along it, so that `rank` finds where the slips with prefix t start and end.
use mathlib.Core.Path.{◌≡◌}
use mathlib.Core.Bool.{true}
use mathlib.Core.List.{List}
use mathlib.Core.Logic.{inl, inr}
use Prim.Native.Nat.{ℕ}
use lib.ListN.{get_or}
use Rattle.words.specs.Words.{begins, before}
use Rattle.words.proofs.Tests.{either, or_left}
use Rattle.words.proofs.Members.{Asc, Less}
use Rattle.words.proofs.Picks.{asc_get_or}
use Rattle.trays.specs.Slips.{slip}
use Rattle.index_rule.proofs.Stretches.{lower_back, starts_back}
use Rattle.trie_order.specs.declared.Bound.TheVariants.{Lower, Upper}
use Rattle.trie_order.specs.Order.{precedes, below, Falling}

module _ (ss : List (List ℕ)) (t : List ℕ) where
  upper_back : (i k : ℕ) → Less (precedes ss) i k → below Upper t (slip ss k) k ≡ true → below Upper t (slip ss i) i ≡ true
  upper_back i k p e =
      elim (either (before (slip ss k) t) (begins t (slip ss k)) e) [
        | inl l ↦ or_left (before (slip ss i) t) (begins t (slip ss i)) (lower_back ss t i k p l)
        | inr l ↦ starts_back ss t i k p l
      ]

  module _ (M : List ℕ) (a : Asc (Less (precedes ss)) M) where
    pub lower-falls : Falling (λ i. below Lower t (slip ss i) i) M
    lower-falls j k h l e = lower_back ss t (get_or M j 0) (get_or M k 0) (asc_get_or 0 (Less (precedes ss)) M j k a h l) e

    pub upper-falls : Falling (λ i. below Upper t (slip ss i) i) M
    upper-falls j k h l e = upper_back (get_or M j 0) (get_or M k 0) (asc_get_or 0 (Less (precedes ss)) M j k a h l) e
