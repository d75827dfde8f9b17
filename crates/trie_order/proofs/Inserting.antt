-- Insertion at a rank: a member goes into an ascending list behind the members that are less.
--   rank x ys    == how many of ys are less than x
-- For any strict total order lt: in an ascending list those less than x stand first, so that insertion at the rank is `insert`.
use mathlib.Core.Path.{◌≡◌, refl, ap}
use mathlib.Core.Bool.{Bool, false}
use mathlib.Core.List.Memᴰ
use mathlib.Core.List.{List, [], ◌∷◌, ◌++◌}
use mathlib.Core.Logic.{inl, inr}
use Prim.Native.Nat.{ℕ}
use lib.ListN.{length, get_or, take, drop}
use Rattle.words.specs.Lists.{those, insert}
use Rattle.words.proofs.Tests.{tell, not_both}
use Rattle.words.proofs.Members.{In, Asc, Less, those-yes, those_no}
use Rattle.words.proofs.Picks.{those_none, asc_get_or}
use Rattle.trie_order.specs.Order.{Falling}

module _ (lt : ℕ → ℕ → Bool) (irr : (a : ℕ) → lt a a ≡ false) (tr : (a b c : ℕ) → Less lt a b → Less lt b c → Less lt a c)
    (con : (a b : ℕ) → lt a b ≡ false → lt b a ≡ false → a ≡ b) where
  rank : ℕ → List ℕ → ℕ
  rank x ys = length (those (λ y. lt y x) ys)

  not-less : (a b : ℕ) → Less lt a b → lt b a ≡ false
  not-less a b e = elim (tell (lt b a)) [ inl h ↦ absurd (not_both (lt a a) (tr a b a e h) (irr a)) | inr h ↦ h ]

  -- the two ways of `insert` at a list with a first member
  insert-behind : (x y : ℕ) (ys : List ℕ) → Less lt y x → insert lt x (y ∷ ys) ≡ y ∷ insert lt x ys
  insert-behind x y ys e = rw (not-less y x e, e, insert)

  insert_front : (x y : ℕ) (ys : List ℕ) → lt y x ≡ false → (x ≡ y → ⊥) → insert lt x (y ∷ ys) ≡ x ∷ (y ∷ ys)
  insert_front x y ys e n =
      elim (tell (lt x y)) [ inl h ↦ rw (h, insert) | inr h ↦ absurd (n (con x y h e)) ]

  pub insert_rank : (x : ℕ) (ys : List ℕ) → Asc (Less lt) ys → (In x ys → ⊥) →
      insert lt x ys ≡ take (length (those (λ y. lt y x) ys)) ys ++ (x ∷ drop (length (those (λ y. lt y x) ys)) ys)
  insert_rank x [] p n = refl
  insert_rank x (y ∷ ys) p n =
      elim (tell (lt y x)) [
        | inl e ↦ rw (insert-behind x y ys e, those-yes (λ z. lt z x) y ys e) (ap (λ l. y ∷ l) (insert_rank x ys p.1 (λ m. n (Memᴰ.tail m))))
        | inr e ↦
            let none : (z : ℕ) → In z ys → lt z x ≡ false =
            λ z m. elim (tell (lt z x)) [ inl h ↦ absurd (not_both (lt y x) (tr y z x (p.0 z m) h) e) | inr h ↦ h ] in
            rw (insert_front x y ys e (λ q. n (Memᴰ.head q)), those_no (λ z. lt z x) y ys e, those_none (λ z. lt z x) ys none)
      ]

  pub less-falls : (x : ℕ) (ys : List ℕ) → Asc (Less lt) ys → Falling (λ y. lt y x) ys
  less-falls x ys p j k h l e = tr (get_or ys j 0) (get_or ys k 0) x (asc_get_or 0 (Less lt) ys j k p h l) e
