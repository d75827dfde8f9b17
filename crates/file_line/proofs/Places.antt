-- What `position` answers: the first place that passes, if one does.
use mathlib.Core.Path.{◌≡◌}
use mathlib.Core.Bool.{Bool}
use mathlib.Core.List.{List}
use Prim.Native.Nat.{ℕ, ◌≤◌, ◌<◌}
use borrow.Author.Tests.{ltb-true, ltb-false}
use lib.Dec.{ltb}
use lib.ListN.{length}
use Rattle.std.specs.Prelude.{Option, Some, None}
use Rattle.std.specs.List.{position_or_len, position}
use Rattle.words.proofs.Tests.{by_test}

module _ (p : ℕ → Bool) (s : List ℕ) where
  pub place_of : (i : ℕ) → Some i ≡ position p s → (i ≡ position_or_len p s) × (i < length s)
  place_of i e =
      let a : ℕ = position_or_len p s in
      by_test (ltb a (length s))
      (λ t. let f : Some i ≡ Some a = rw t at e in let g : i ≡ a = cc in (g, rw g (ltb-true a (length s) t)))
      (λ t. let f : Some i ≡ None = rw t at e in cc)

  pub place_none : None ≡ position p s → length s ≤ position_or_len p s
  place_none e =
      let a : ℕ = position_or_len p s in
      by_test (ltb a (length s)) (λ t. let f : ◌≡◌ {A = Option ℕ} None (Some a) = rw t at e in cc) (λ t. ltb-false a (length s) t)
