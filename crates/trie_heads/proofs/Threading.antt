-- Lists threaded through a table: one more number before one of them.
--   front t i xs      == xs, with i before it if t holds
--   threaded-..       == one list: its first number, another table with the same cells
--   drop-..           == a list from a place on
--   push_lists        == the lists after a push
-- A push changes the head of one list, and a cell that belongs to the number pushed. No list has used that cell, so the others are as they were.
use mathlib.Core.Path.{◌≡◌, refl}
use mathlib.Core.Bool.{Bool, true, false, cond}
use mathlib.Core.Logic.{inl, inr}
use mathlib.Core.List.Memᴰ
use mathlib.Core.List.{List, [], ◌∷◌}
use Prim.Native.Nat.{ℕ, zero, suc, ◌+◌, ◌<◌}
use native.Mathlib.Decide.{ℕ_discrete}
use native.Mathlib.Numerals.{add-one}
use native.Mathlib.Omega.{arith}
use lib.ListN.{length, get_or, drop}
use lib.Seq.{drop-cons}
use Rattle.words.specs.Lists.{those}
use Rattle.words.proofs.Tests.{tell}
use Rattle.words.proofs.Members.{In, by_in, Asc, those-yes, those_no}
use Rattle.layout.specs.Tables.{cell, Threaded}
use Rattle.layout.proofs.Heads.{threaded_same}
use Rattle.trie_heads.specs.Steps.Heads.{Pushed, Lists}

-- a list from a place on: its first member, and those behind it
pub asc_drop : {A : Type 0} (R : A → A → Type 0) (j : ℕ) (xs : List A) → Asc R xs → Asc R (drop j xs)
asc_drop R zero xs a = a
asc_drop R (suc j) [] a = a
asc_drop R (suc j) (x ∷ xs) a = asc_drop R j xs a.1

pub in_drop : {A : Type 0} {a : A} (j : ℕ) (xs : List A) → In a (drop j xs) → In a xs
in_drop zero xs m = m
in_drop (suc j) [] m = m
in_drop (suc j) (x ∷ xs) m = Memᴰ.tail (in_drop j xs m)

module _ (K : List ℕ) (j j' i : ℕ) (s : j' ≡ j + 1) (l : j < length K) (e : i ≡ get_or K j 0) where
  pub drop_here : drop j K ≡ i ∷ drop j' K
  drop_here = rw (e, drop-cons K j 0 l, s, add-one j)

  pub drop-later : Asc ◌<◌ K → {r : ℕ} → In r (drop j' K) → i < r
  drop-later a {r} m = (rw drop_here at (asc_drop ◌<◌ j K a)).0 r m

abbrev pub front : Bool → ℕ → List ℕ → List ℕ
front t i xs = cond t (i ∷ xs) xs

pub those_front : (t : ℕ → Bool) (i : ℕ) (xs : List ℕ) → those t (i ∷ xs) ≡ front (t i) i (those t xs)
those_front t i xs = elim (tell (t i)) [ inl e ↦ rw e (those-yes t i xs e) | inr e ↦ rw e (those_no t i xs e) ]

pub in_front : {P : Type 0} {r : ℕ} (t : Bool) (i : ℕ) (xs : List ℕ) → In r (front t i xs) → (t ≡ true → r ≡ i → P) → (In r xs → P) → P
in_front true i xs m f g = by_in m (f refl) g
in_front false i xs m f g = g m

-- the list of node u gets i, the others stay; key v r is the place of r's cell in the list of node v
module _
    (P : ℕ → Type 0) (key : ℕ → ℕ → ℕ) (list list' : ℕ → List ℕ) (w : List ℕ) (heads u nexts p i : ℕ) (w' : List ℕ)
    (x : Pushed w heads u nexts p i w') (here : p ≡ key u i)
    (inside : (v : ℕ) → P v → heads + v < nexts) (node : P u)
    (unused : (v r : ℕ) → P v → In r (list v) → key v r ≡ key u i → ⊥)
    (more : list' u ≡ i ∷ list u) (others : (v : ℕ) → P v → (v ≡ u → ⊥) → list' v ≡ list v) where
  next_kept : (v r : ℕ) → P v → In r (list v) → cell w' nexts (key v r) ≡ cell w nexts (key v r)
  next_kept v r q m =
      x.others (nexts + key v r) (λ e. omega (arith, inside u node)) (λ e. unused v r q m (omega arith))

  pub push_lists : Lists P key (cell w heads) (cell w nexts) list → Lists P key (cell w' heads) (cell w' nexts) list'
  push_lists l v q =
      let old : Threaded (λ r. cell w' nexts (key v r)) (cell w heads v) (list v) =
      threaded_same (λ r. cell w nexts (key v r)) (λ r. cell w' nexts (key v r)) (cell w heads v) (list v) (λ r m. next_kept v r q m) (l v q) in
      elim (ℕ_discrete v u) [
        | yes e ↦ rw (e, more) (x.head, rw (← here, x.next) (rw e at old))
        | no ne ↦ rw (others v q ne, x.others (heads + v) (λ e. ne (omega arith)) (λ e. omega (arith, inside v q))) old
      ]
