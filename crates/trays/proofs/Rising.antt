-- Ends that rise.
--   above_rest == the first is above where they begin, and the rest rise too
--   last_above == they reach at least as far as they began
use mathlib.Core.Path.{◌≡◌}
use mathlib.Core.List.{List, [], ◌∷◌}
use Prim.Native.Nat.{ℕ, suc, ◌≤◌, ◌<◌}
use borrow.Author.Tests.{leb-false}
use native.Mathlib.Omega.{arith}
use lib.Dec.{leb}
use Rattle.words.specs.Lists.{last_or}
use Rattle.words.proofs.Tests.{by_test}
use Rattle.trays.specs.Faults.{not_above}

-- ends that rise reach at least as far as they began
pub above_rest : (i here e : ℕ) (es : List ℕ) → not_above i here (e ∷ es) ≡ 0 → 1 ≤ i → (here < e) × (not_above (suc i) e es ≡ 0)
above_rest i here e es h p =
    by_test (leb e here)
    (λ t. absurd (zero-not i p (rw (t, not_above) at h)))
    (λ t. (leb-false e here t, rw (t, not_above) at h))
  where
    zero-not : (n : ℕ) → 1 ≤ n → n ≡ 0 → ⊥
    zero-not n a b = omega arith

pub last_above : (i here : ℕ) (es : List ℕ) → 1 ≤ i → not_above i here es ≡ 0 → here ≤ last_or here es
last_above i here [] p h = omega arith
last_above i here (e ∷ es) p h =
    let r = above_rest i here e es h p in
    omega (arith, r.0, last_above (suc i) e es (omega arith) r.1)
