-- The kept slips among the members M of a tray, for any M.
--   aside_longer, aside_equal == the two ways in which a slip is set aside; aside_cases == there is no other
--   kept_asc, in_kept, kept_in_lem == the kept slips ascend if M does, and are those of M that are not set aside
--   kept_apart, kept_proper   == no kept slip stands in another one, and none is the whole of its overlap with another one
-- A slip that stands in another one is shorter, and then it is set aside, or as long, and then the two are equal and the higher one is
-- set aside.
use mathlib.Core.Path.{◌≡◌, sym, ◌∙◌}
use mathlib.Core.Bool.{true, false, ◌&&◌, not}
use mathlib.Core.List.{List}
use mathlib.Core.Logic.{◌⊎◌, inl, inr}
use Prim.Native.Nat.{ℕ, ◌≤◌, ◌<◌}
use native.Mathlib.Decide.{dec_lt}
use native.Mathlib.Omega.{arith}
use lib.Dec.{ltb}
use lib.ListN.{length}
use lib.Seq.{take_all}
use borrow.Author.Tests.{ltb-true, lt-ltb, not-true}
use Rattle.words.specs.Words.{same, stands_in, overlap}
use Rattle.words.proofs.Tests.{tell, both, either, and_intro, or_right, not_both}
use Rattle.words.proofs.Members.{In, Asc, in_those, those_in, asc_those, none_any}
use Rattle.words.proofs.Orders.{same-is, same_at}
use Rattle.words.proofs.Strings.{begins-take, begins_stands, stands_at}
use Rattle.words.proofs.Overlaps.{overlap_full}
use Rattle.trays.specs.Slips.{slip}
use Rattle.trays.specs.Aside.{aside_for, is_aside, kept}

pub stands_same : (x y : List ℕ) → stands_in x y ≡ true → length y ≤ length x → x ≡ y
stands_same x y e h =
    let (k, fits, b) = stands_at x y e in
    let z : k ≡ 0 = omega arith in
    sym (begins-take x y (rw z at b)) ∙ take_all (length x) y h

pub stands_not-overlap : (x y : List ℕ) → stands_in x y ≡ false → overlap x y < length x
stands_not-overlap x y e =
    elim (dec_lt (overlap x y) (length x)) [
      | yes h ↦ h
      | no h ↦ absurd (not_both (stands_in x y) (begins_stands x y (overlap_full x y (omega arith))) e)
    ]

module _ (ss : List (List ℕ)) (i k : ℕ) where
  pub aside_longer : length (slip ss i) < length (slip ss k) → stands_in (slip ss i) (slip ss k) ≡ true → aside_for ss i k ≡ true
  aside_longer h e = rw (lt-ltb (length (slip ss i)) (length (slip ss k)) h, e)

  pub aside_equal : k < i → slip ss i ≡ slip ss k → aside_for ss i k ≡ true
  aside_equal h s =
      or_right (ltb (length (slip ss i)) (length (slip ss k)) && stands_in (slip ss i) (slip ss k)) (ltb k i && same (slip ss i) (slip ss k))
      (and_intro (ltb k i) (same (slip ss i) (slip ss k)) (lt-ltb k i h) (rw s (same_at (slip ss k))))

  pub aside_cases :
      aside_for ss i k ≡ true
      → ((length (slip ss i) < length (slip ss k)) × (stands_in (slip ss i) (slip ss k) ≡ true)) ⊎ ((k < i) × (slip ss i ≡ slip ss k))
  aside_cases e =
      let x = slip ss i in
      let y = slip ss k in
      elim (either (ltb (length x) (length y) && stands_in x y) (ltb k i && same x y) e) [
        | inl a ↦ let (l, t) = both (ltb (length x) (length y)) (stands_in x y) a in inl (ltb-true (length x) (length y) l, t)
        | inr a ↦ let (l, t) = both (ltb k i) (same x y) a in inr (ltb-true k i l, same-is x y t)
      ]

-- of two different slips, if one stands in the other, one sets the other aside
aside_stands : (ss : List (List ℕ)) (i k : ℕ) → (i ≡ k → ⊥) → stands_in (slip ss i) (slip ss k) ≡ true → (aside_for ss i k ≡ true) ⊎ (aside_for ss k i ≡ true)
aside_stands ss i k ne e =
    elim (dec_lt (length (slip ss i)) (length (slip ss k))) [
      | yes h ↦ inl (aside_longer ss i k h e)
      | no h ↦
          let s : slip ss i ≡ slip ss k = stands_same (slip ss i) (slip ss k) e (omega arith) in
          elim (dec_lt k i) [ yes l ↦ inl (aside_equal ss i k l s) | no l ↦ inr (aside_equal ss k i (omega arith) (sym s)) ]
    ]

module _ (ss : List (List ℕ)) (M : List ℕ) where
  pub kept_asc : Asc ◌<◌ M → Asc ◌<◌ (kept ss M)
  kept_asc a = asc_those ◌<◌ (λ i. not (is_aside ss M i)) M a

  pub in_kept : {k : ℕ} → In k (kept ss M) → In k M × (is_aside ss M k ≡ false)
  in_kept {k} m = let (i, e) = in_those (λ i. not (is_aside ss M i)) M m in (i, not-true (is_aside ss M k) e)

  pub kept_in_lem : {k : ℕ} → In k M → is_aside ss M k ≡ false → In k (kept ss M)
  kept_in_lem m e = those_in (λ i. not (is_aside ss M i)) m (rw e)

  pub kept-aside_for : (i k : ℕ) → In i (kept ss M) → In k (kept ss M) → aside_for ss i k ≡ false
  kept-aside_for i k p q = none_any (aside_for ss i) M (in_kept p).1 k (in_kept q).0

  pub kept_apart : (i k : ℕ) → In i (kept ss M) → In k (kept ss M) → (i ≡ k → ⊥) → stands_in (slip ss i) (slip ss k) ≡ false
  kept_apart i k p q ne =
      elim (tell (stands_in (slip ss i) (slip ss k))) [
        | inl e ↦
            elim (aside_stands ss i k ne e) [
              | inl a ↦ absurd (not_both (aside_for ss i k) a (kept-aside_for i k p q))
              | inr a ↦ absurd (not_both (aside_for ss k i) a (kept-aside_for k i q p))
            ]
        | inr e ↦ e
      ]

  pub kept_proper : (i k : ℕ) → In i (kept ss M) → In k (kept ss M) → (i ≡ k → ⊥) → overlap (slip ss i) (slip ss k) < length (slip ss i)
  kept_proper i k p q ne = stands_not-overlap (slip ss i) (slip ss k) (kept_apart i k p q ne)
