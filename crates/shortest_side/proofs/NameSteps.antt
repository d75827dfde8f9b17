-- The slips of an order, named one after another.
--   Naming N order k i xs == the first i of k slips stand in xs by their numbers in N, with 0 behind them
--   naming-.. == so at the start, after one slip more, at the end; name-.. == what a turn asks
use mathlib.Core.Path.{◌≡◌, refl}
use mathlib.Core.List.{List, map}
use Prim.Native.Nat.{ℕ, ◌+◌, ◌*◌, ◌^◌, ◌≤◌, ◌<◌}
use native.Mathlib.Omega.{arith}
use lib.ListN.{length, get_or, take, set, replicate}
use Rattle.words.specs.Lists.{entry}
use Rattle.trays.specs.Limits.{max_shortest}
use Rattle.shortest_core.specs.Steps.Seeking.{ten_of}
use Rattle.shortest_core.proofs.OrderSteps.{ten_more}
use Rattle.shortest_side.specs.Steps.Sides.{OrderAsks}

pub record Naming (N order : List ℕ) (k i : ℕ) (xs : List ℕ) : Type 0 where
  pub upto : i ≤ k
  pub are : xs ≡ ten_of (map (entry N) (take i order))

module _ (N order : List ℕ) (k : ℕ) (A : OrderAsks N order k) where
  pub naming_none : Naming N order k 0 (replicate max_shortest 0)
  naming_none = record { upto = omega arith; are = refl }

  module _ (i : ℕ) (h : i < k) where
    pub name_fits : i * 2 < 2 ^ 64
    name_fits = omega (arith, A.few)

    pub name_listed : i < length order
    name_listed = omega (arith, A.listed)

    pub name_room : i < max_shortest
    name_room = omega (arith, A.few)

    pub name_some : (p : ℕ) → p ≡ get_or order i 0 → 1 ≤ p
    name_some p e = rw e (A.among i h).0

    pub name_known : (p : ℕ) → p ≡ get_or order i 0 → p ≤ length N
    name_known p e = rw e (A.among i h).1

    pub naming_more : (p q x : ℕ) (xs : List ℕ) → Naming N order k i xs → p ≡ get_or order i 0 → q ≡ entry N p → x ≡ q → (i' : ℕ) → i' ≡ i + 1
        → Naming N order k i' (set xs i x)
    naming_more p q x xs n e f g i' u = record { upto = omega arith; are = ten_more (entry N) order i x xs name_listed name_room n.are (rw (g, f, e)) i' u }

  pub naming_all : (i : ℕ) (xs : List ℕ) → Naming N order k i xs → k ≤ i → xs ≡ ten_of (map (entry N) (take k order))
  naming_all i xs n h = let e : i ≡ k = omega (arith, n.upto) in rw e at n.are
