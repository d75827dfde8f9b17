-- The joins made so far, seen as a list of chains that together hold every slip of K once.
--   Chain          == a first slip and the slips to its right
--   whole_chain, end     == the slips of a chain; its last slip
--   Run js C       == C is a chain of the joins js, whole from end to end
--   Arc w K j      == j joins two slips of K, with their weight w for its overlap
--   Rep w K js Cs  == the chains Cs represent the joins js over the slips K
-- A chain of the joins runs until a slip has no right neighbour, so its end is the last of the chain that its first slip begins; in it
-- only the end has no right neighbour, and only the first slip no left one.
use mathlib.Core.Path.{◌≡◌, refl, sym, ◌∙◌}
use mathlib.Core.List.Memᴰ
use mathlib.Core.List.{List, [], ◌∷◌, ◌++◌}
use Prim.Native.Nat.{ℕ, zero, suc, ◌+◌, ◌≤◌}
use native.Mathlib.Omega.{arith}
use lib.ListN.{length}
use Rattle.words.specs.Lists.{last_or}
use Rattle.words.proofs.Members.{In, by_in}
use Rattle.words.proofs.Sums.{sum, All, held, held_in, length_sum}
use Rattle.greedy.specs.Joins.{Join, right_of, left_of, last_from, last_of, saved as saved_by}
use Rattle.greedy.specs.Orders.{along}
use Rattle.greedy.proofs.Takes.{last_stop, last_go}

pub record Chain : Type 0 where
  pub first : ℕ
  pub rest : List ℕ

abbrev pub whole_chain : Chain → List ℕ
whole_chain C = C.first ∷ C.rest

abbrev pub end : Chain → ℕ
end C = last_or C.first C.rest

abbrev pub Tail : List Join → ℕ → List ℕ → Type 0
Tail js p [] = right_of p js ≡ 0
Tail js p (x ∷ xs) = (right_of p js ≡ x) × (1 ≤ left_of x js) × (1 ≤ x) × Tail js x xs

abbrev pub Run : List Join → Chain → Type 0
Run js C = (left_of C.first js ≡ 0) × (1 ≤ C.first) × Tail js C.first C.rest

abbrev pub Arc : (ℕ → ℕ → ℕ) → List ℕ → Join → Type 0
Arc w K j =
    (1 ≤ j.left) × (1 ≤ j.right) × (1 ≤ held j.left K) × (1 ≤ held j.right K) × (j.overlap ≡ w j.left j.right)

pub record Rep (w : ℕ → ℕ → ℕ) (K : List ℕ) (js : List Join) (Cs : List Chain) : Type 0 where
  pub all : (g : ℕ → ℕ) → sum (λ C. sum g (whole_chain C)) Cs ≡ sum g K
  pub runs : All (Run js) Cs
  pub arcs : All (Arc w K) js
  pub count : sum (λ C. length C.rest) Cs ≡ length js
  pub saved : sum (λ C. along w C.first C.rest) Cs ≡ saved_by js

-- each chain has a join less than slips
pub chains_fewer : (Cs : List Chain) → length Cs + sum (λ C. length C.rest) Cs ≡ sum (λ C. sum (λ i. 1) (whole_chain C)) Cs
chains_fewer [] = refl
chains_fewer (C ∷ Cs) = omega (arith, chains_fewer Cs, length_sum C.rest)

-- the end of a chain
pub last_append : (p : ℕ) (xs : List ℕ) (q : ℕ) (ys : List ℕ) → last_or p (xs ++ (q ∷ ys)) ≡ last_or q ys
last_append p [] q ys = refl
last_append p (x ∷ xs) q ys = last_append x xs q ys

pub tail_end : (js : List Join) (p : ℕ) (xs : List ℕ) → Tail js p xs → right_of (last_or p xs) js ≡ 0
tail_end js p [] t = t
tail_end js p (x ∷ xs) t = tail_end js x xs t.3

pub tail_last : (js : List Join) (n p : ℕ) (xs : List ℕ) → Tail js p xs → length xs ≤ n → last_from n p js ≡ last_or p xs
tail_last js n p [] t h = last_stop n p js t
tail_last js zero p (x ∷ xs) t h = absurd (omega arith)
tail_last js (suc n) p (x ∷ xs) t h =
    last_go n p js (omega arith) ∙ rw t.0 (tail_last js n x xs t.3 (omega arith))

pub run_last : (js : List Join) (C : Chain) → Run js C → length C.rest ≤ length js → last_of C.first js ≡ end C
run_last js C r h = tail_last js (length js) C.first C.rest r.2 h

-- where a slip without a neighbour stands in a chain
tail_in : (js : List Join) (a p : ℕ) (xs : List ℕ) → Tail js p xs → In a (p ∷ xs) → right_of a js ≡ 0 → last_or p xs ≡ a
tail_in js a p [] t m z = by_in m sym (λ h. absurd (Memᴰ.not-nil h))
tail_in js a p (x ∷ xs) t m z = by_in m (λ e. absurd (omega (arith, rw e at z))) (λ h. tail_in js a x xs t.3 h z)

pub run_end : (js : List Join) (a : ℕ) (C : Chain) → Run js C → 1 ≤ held a (whole_chain C) → right_of a js ≡ 0 → end C ≡ a
run_end js a C r h z = tail_in js a C.first C.rest r.2 (held_in a (whole_chain C) h) z

tail_left : (js : List Join) (b p : ℕ) (xs : List ℕ) → Tail js p xs → In b xs → 1 ≤ left_of b js
tail_left js b p [] t m = absurd (Memᴰ.not-nil m)
tail_left js b p (x ∷ xs) t m = by_in m (λ e. rw e t.1) (λ h. tail_left js b x xs t.3 h)

pub run_first : (js : List Join) (b : ℕ) (C : Chain) → Run js C → 1 ≤ held b (whole_chain C) → left_of b js ≡ 0 → C.first ≡ b
run_first js b C r h z =
    by_in (held_in b (whole_chain C) h) sym (λ m. absurd (omega (arith, tail_left js b C.first C.rest r.2 m)))

-- weights along two lists put together
pub along_append :
    (w : ℕ → ℕ → ℕ) (p : ℕ) (xs : List ℕ) (q : ℕ) (ys : List ℕ)
    → along w p (xs ++ (q ∷ ys)) ≡ along w p xs + w (last_or p xs) q + along w q ys
along_append w p [] q ys = omega arith
along_append w p (x ∷ xs) q ys = omega (arith, along_append w x xs q ys)
