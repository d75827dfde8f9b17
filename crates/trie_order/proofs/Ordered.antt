-- The order of two strings of which the first n letters agree: that of what is left of both, and where one ends there that of their lengths.
use mathlib.Core.Path.{◌≡◌, refl, sym, ◌∙◌}
use mathlib.Core.Bool.{true}
use mathlib.Core.List.{List, [], ◌∷◌}
use Prim.Native.Nat.{ℕ, zero, suc, ◌-◌, ◌≤◌, min}
use native.Mathlib.Omega.{arith}
use borrow.Author.Tests.{eq-eqb, eqb-true, ne_eqb, lt-ltb, le-ltb}
use lib.Dec.{eqb, ltb}
use lib.ListN.{length, take, drop, length-drop}
use lib.Seq.{length-take-le}
use Rattle.std.proofs.lemmas.Bool.Decides.{nat_tests}
use Rattle.std.specs.Cmp.Lexicographic.{slice_cmp, pointwise}
use Rattle.std.specs.List.{starts_with}
use Rattle.std.specs.Ordering.{nat_cmp}
use Rattle.words.proofs.OverlapLoop.{suffix}
use Rattle.words.proofs.Tests.{by_test, both}

less-both : (k m n : ℕ) → k ≤ m → k ≤ n → nat_cmp (m - k) (n - k) ≡ nat_cmp m n
less-both k m n h i = by_test (ltb m n) (λ t. grind (arith, nat_tests)) (λ t. grind (arith, nat_tests))

one-ends : (a b : List ℕ) → min (length a) (length b) ≡ 0 → nat_cmp (length a) (length b) ≡ slice_cmp nat_cmp a b
one-ends [] [] h = refl
one-ends [] (y ∷ b) h = rw (lt-ltb 0 (suc (length b)) (omega arith))
one-ends (x ∷ a) [] h = rw (le-ltb (suc (length a)) 0 (omega arith), ne_eqb (suc (length a)) 0 (λ z. omega arith))
one-ends (x ∷ a) (y ∷ b) h = absurd (omega arith)

pub order-ends : (a b : List ℕ) (n : ℕ) → slice_cmp nat_cmp a b ≡ slice_cmp nat_cmp (drop n a) (drop n b) → n ≡ min (length a) (length b) →
    nat_cmp (length a) (length b) ≡ slice_cmp nat_cmp a b
order-ends a b n same e =
    let la = length-drop n a in
    let lb = length-drop n b in
    let o : nat_cmp (length (drop n a)) (length (drop n b)) ≡ slice_cmp nat_cmp (drop n a) (drop n b) =
    one-ends (drop n a) (drop n b) (omega arith) in
    sym (less-both n (length a) (length b) (omega arith) (omega arith)) ∙ ((rw (la, lb) at o) ∙ sym same)

-- the first k letters agree
same-first : (k : ℕ) (a b : List ℕ) → k ≤ length a → k ≤ length b → pointwise eqb (take k a) (take k b) ≡ true →
    slice_cmp nat_cmp a b ≡ slice_cmp nat_cmp (drop k a) (drop k b)
same-first zero a b h i e = refl
same-first (suc k) [] b h i e = absurd (omega arith)
same-first (suc k) (x ∷ a) [] h i e = absurd (omega arith)
same-first (suc k) (x ∷ a) (y ∷ b) h i e =
    let r = both (eqb x y) (pointwise eqb (take k a) (take k b)) e in
    rw (eqb-true x y r.0, le-ltb y y (omega arith), eq-eqb y y refl, same-first k a b (omega arith) (omega arith) r.1)

-- that of what is left of both, as the parts `&a[k..]` and `&b[k..]`, where b starts with `&a[..k]`
pub order-left : (k : ℕ) (a b : List ℕ) → k ≤ length a → k ≤ length b → starts_with eqb b (take k a) ≡ true →
    slice_cmp nat_cmp (take (length a - k) (drop k a)) (take (length b - k) (drop k b)) ≡ slice_cmp nat_cmp a b
order-left k a b h i e = rw (suffix a k, suffix b k, sym (same-first k a b h i (rw (length-take-le k a h) at e)))
