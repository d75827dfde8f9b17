-- Elements stored into the first part of a lent list: at the loop's end they stand before the rest of the list.
use mathlib.Core.Path.{◌≡◌}
use mathlib.Core.List.{List, [], ◌++◌, append-nil}
use Prim.Native.Nat.{ℕ, ◌≤◌}
use native.Mathlib.Omega.{arith}
use lib.ListN.{length, take, drop, drop_of_length-le}
use lib.Seq.{length-take-le}
use Rattle.words.specs.Lists.{over}
use Rattle.store_loops.specs.Firsts.{firsts}
use Rattle.store_loops.proofs.Firsts.{length-firsts}

pub stored_all :
    {A : Type 0} (f : ℕ → A) (xs ys : List A) (n i : ℕ) → n ≤ length xs → ys ≡ over (firsts f i) (take n xs) → i ≤ length (take n xs)
    → length (take n xs) ≤ i → ys ++ drop n xs ≡ over (firsts f n) xs
stored_all f xs ys n i h e l m =
    let all : i ≡ n = omega (arith, length-take-le n xs h) in
    let none : drop n (take n xs) ≡ [] = drop_of_length-le (take n xs) {i = n} (omega (arith, length-take-le n xs h)) in
    rw (e, all, length-firsts f n, none, append-nil)
