-- Binary search for the rank: members before `low` pass the test, those from `high` on do not.
--   Passed p M low   == every member of M before place low passes the test p
--   Failed p M high  == no member of M from place high on passes it
-- Where the test falls along M, one member that passes tells of all before it, and one that does not of all behind it.
use mathlib.Core.Path.{◌≡◌, sym, ap, ◌∙◌}
use mathlib.Core.Bool.{Bool, true, false}
use mathlib.Core.List.{List, [], ◌∷◌}
use mathlib.Core.Logic.{inl, inr}
use Prim.Native.Nat.{ℕ, zero, suc, ◌+◌, ◌-◌, ◌/◌, ◌≤◌, ◌<◌}
use native.Mathlib.Decide.{dec_lt}
use native.Mathlib.Omega.{arith}
use lib.ListN.{length, get_or}
use Rattle.words.specs.Lists.{those}
use Rattle.words.proofs.Tests.{tell, not_both}
use Rattle.words.proofs.Members.{those-yes, those_no}
use Rattle.words.proofs.Picks.{get_or_in}
use Rattle.trie_order.specs.Order.{Within, Falling}

pub record Passed (p : ℕ → Bool) (M : List ℕ) (low : ℕ) : Type 0 where
  pub each : (j : ℕ) → j < low → p (get_or M j 0) ≡ true

pub record Failed (p : ℕ → Bool) (M : List ℕ) (high : ℕ) : Type 0 where
  pub each : (j : ℕ) → high ≤ j → j < length M → p (get_or M j 0) ≡ false

pub passed_none : (p : ℕ → Bool) (M : List ℕ) → Passed p M 0
passed_none p M = record { each = λ j h. absurd (omega arith) }

-- what is read at a place is a member
module _ (n : ℕ) (M : List ℕ) (i m : ℕ) (t : Within n M) (h : i < length M) (e : m ≡ get_or M i 0) where
  pub member_least : 1 ≤ m
  member_least = rw e (t.each (get_or M i 0) (get_or_in 0 M i h)).0

  pub member_most : m ≤ n
  member_most = rw e (t.each (get_or M i 0) (get_or_in 0 M i h)).1

-- one turn, which looks at the member m in the middle
middle_within : (low high n i : ℕ) → low < high → high ≤ n → i ≡ low + (high - low) / 2 → i < n
middle_within low high n i u g w = omega arith

module _ (n : ℕ) (M : List ℕ) (low high i m : ℕ) (t : Within n M) (u : low < high) (g : high ≤ length M) (w : i ≡ low + (high - low) / 2)
    (v : m ≡ get_or M i 0) where
  pub middle_least : 1 ≤ m
  middle_least = member_least n M i m t (middle_within low high (length M) i u g w) v

  pub middle_most : m ≤ n
  middle_most = member_most n M i m t (middle_within low high (length M) i u g w) v

module _ (p : ℕ → Bool) (M : List ℕ) (f : Falling p M) (low high i m : ℕ) (r : Bool) (u : low < high) (g : high ≤ length M)
    (w : i ≡ low + (high - low) / 2) (v : m ≡ get_or M i 0) (e : r ≡ p m) where
  h : i < length M
  h = middle_within low high (length M) i u g w

  pub passed_to : r ≡ true → (k : ℕ) → k ≡ i + 1 → Passed p M k
  passed_to t k s =
      let here : p (get_or M i 0) ≡ true = rw v at (sym e ∙ t) in
      record { each = λ j l. elim (dec_lt j i) [ yes q ↦ f j i q h here | no q ↦ let n : j ≡ i = omega arith in rw n here ] }

  pub failed_from : r ≡ false → Failed p M i
  failed_from t =
      let here : p (get_or M i 0) ≡ false = rw v at (sym e ∙ t) in
      record {
        each = λ j l d. elim (dec_lt i j) [
          | yes q ↦ elim (tell (p (get_or M j 0))) [ inl t ↦ absurd (not_both (p (get_or M i 0)) (f i j q d t) here) | inr t ↦ t ]
          | no q ↦ let n : j ≡ i = omega arith in rw n here
        ];
      }

rank_split : (p : ℕ → Bool) (M : List ℕ) (k : ℕ) → k ≤ length M → Passed p M k → Failed p M k → k ≡ length (those p M)
rank_split p [] k h a b = omega arith
rank_split p (i ∷ M) zero h a b =
    rw (those_no p i M (b.each 0 (omega arith) (omega arith)))
    (rank_split p M zero (omega arith) (passed_none p M) (record { each = λ j u v. b.each (suc j) (omega arith) (omega arith) }))
rank_split p (i ∷ M) (suc k) h a b =
    rw (those-yes p i M (a.each 0 (omega arith)))
    (ap suc (rank_split p M k (omega arith) (record { each = λ j u. a.each (suc j) (omega arith) })
    (record { each = λ j u v. b.each (suc j) (omega arith) (omega arith) })))

pub rank_found : (p : ℕ → Bool) (M : List ℕ) (low high : ℕ) → low ≤ high → high ≤ length M → high ≤ low → Passed p M low → Failed p M high →
    low ≡ length (those p M)
rank_found p M low high h l g a b = let e : high ≡ low = omega arith in rank_split p M low (omega arith) a (rw e at b)
