-- Slip numbers in the order of their letters.
--   ranks ss i k   == slip i stands before slip k: in dictionary order, equal slips by number
-- The order is strict and total, and the strings of numbers that ascend by it ascend in dictionary order, equal ones side by side.
use mathlib.Core.Path.{◌≡◌}
use mathlib.Core.Bool.{Bool, true, false, ◌&&◌, ◌||◌}
use mathlib.Core.List.Memᴰ
use mathlib.Core.List.{List, [], ◌∷◌, map}
use mathlib.Core.Logic.{inl, inr}
use Prim.Native.Nat.{ℕ}
use lib.Dec.{ltb}
use Rattle.words.specs.Lists.{in_order}
use Rattle.words.specs.Words.{same, before}
use Rattle.words.proofs.Tests.{tell, not_both}
use Rattle.words.proofs.Members.{Asc, Less, Sorts, in_order_sorts}
use Rattle.words.proofs.Orders.{up, strings, lex_irr, lex_tr, lex_con, lex_cases, before_tr, before_irr}
use Rattle.trays.specs.Slips.{slip}
use Rattle.matching.proofs.Levels.{NotAfter}

abbrev pub ranks : List (List ℕ) → ℕ → ℕ → Bool
ranks ss i k = before (slip ss i) (slip ss k) || (same (slip ss i) (slip ss k) && ltb i k)

asc_map : {A B : Type 0} (R : A → A → Type 0) (S : B → B → Type 0) (f : A → B) → ((a b : A) → R a b → S (f a) (f b)) → (xs : List A)
    → Asc R xs → Asc S (map f xs)
asc_map R S f h [] p = tt
asc_map R S f h (x ∷ xs) p = ((λ y m. let (k, i, e) = Memᴰ.of_map f xs m in rw (← e) (h x k (p.0 k i))), asc_map R S f h xs p.1)

-- a string before another is not after it
pub before_not_after : (x y : List ℕ) → before x y ≡ true → NotAfter x y
before_not_after x y h =
    elim (tell (before y x)) [ inl e ↦ absurd (not_both (before x x) (before_tr x y x h e) (before_irr x)) | inr e ↦ e ]

module _ (ss : List (List ℕ)) where
  pub ranks_irr : (i : ℕ) → Less (ranks ss) i i → ⊥
  ranks_irr i h = not_both (ranks ss i i) h (lex_irr strings (slip ss i) (ltb i i) (up.irr i))

  pub ranks_tr : (i j k : ℕ) → Less (ranks ss) i j → Less (ranks ss) j k → Less (ranks ss) i k
  ranks_tr i j k = lex_tr strings (slip ss i) (slip ss j) (slip ss k) (ltb i j) (ltb j k) (ltb i k) (up.tr i j k)

  pub ranks_con : (i k : ℕ) → ranks ss i k ≡ false → ranks ss k i ≡ false → i ≡ k
  ranks_con i k h g = (lex_con strings (slip ss i) (slip ss k) (ltb i k) (ltb k i) (up.con i k) h g).1

  -- of two numbers the one stands before the other
  pub ranks_other : (i k : ℕ) → (i ≡ k → ⊥) → ranks ss i k ≡ false → Less (ranks ss) k i
  ranks_other i k ne h = elim (tell (ranks ss k i)) [ inl e ↦ e | inr e ↦ absurd (ne (ranks_con i k h e)) ]

  pub ranks_not_after : (i k : ℕ) → Less (ranks ss) i k → NotAfter (slip ss i) (slip ss k)
  ranks_not_after i k h =
      elim (lex_cases strings (slip ss i) (slip ss k) (ltb i k) h) [
        | inl e ↦ before_not_after (slip ss i) (slip ss k) e
        | inr r ↦ rw r.0 (before_irr (slip ss k))
      ]

  pub ranks_asc : (is : List ℕ) → Asc (Less (ranks ss)) is → Asc NotAfter (map (slip ss) is)
  ranks_asc is = asc_map (Less (ranks ss)) NotAfter (slip ss) ranks_not_after is

  pub ranks_sorts : (M : List ℕ) → Sorts (Less (ranks ss)) M (in_order (ranks ss) M)
  ranks_sorts = in_order_sorts (ranks ss) ranks_tr ranks_con
