-- The nodes of one length, read off the strings in dictionary order.
--   NotAfter x y   == x does not stand behind y in dictionary order
-- Strings with a common prefix stand together in dictionary order. So a prefix of d letters is new exactly where a string has at least d
-- letters and fewer than d in common with the string before it, and the prefixes found so ascend.
use mathlib.Core.Path.{◌≡◌, refl, sym, ap, ◌∙◌}
use mathlib.Core.Bool.{true, false, true≢false, ◌&&◌, and-false}
use mathlib.Core.Logic.{◌⊎◌, inl, inr}
use mathlib.Core.List.Memᴰ
use mathlib.Core.List.{List, [], ◌∷◌}
use Prim.Native.Nat.{ℕ, zero, suc, ◌≤◌, ◌<◌}
use native.Mathlib.Decide.{dec_lt, ℕ_discrete}
use native.Mathlib.Omega.{arith}
use lib.Dec.{eqb, ltb, leb}
use lib.ListN.{length, take, length-take}
use lib.Seq.{take-take, length-take-le}
use borrow.Author.Tests.{ltb-false, eq-eqb, ne_eqb, lt-ltb, le-ltb, le-leb, lt-leb}
use Rattle.words.specs.Words.{before, common}
use Rattle.words.proofs.Tests.{tell, neither, and_intro}
use Rattle.words.proofs.Members.{In, by_in, Asc}
use Rattle.words.proofs.Orders.{up, lex_irr, lex_first, lex_then, before_tr, before_con}
use Rattle.words.proofs.CommonPrefix.{common-same, common-take}
pub use Rattle.matching.specs.Steps.Levels.{level}

abbrev pub NotAfter : List ℕ → List ℕ → Type 0
NotAfter x y = before y x ≡ false

abbrev pub Before : List ℕ → List ℕ → Type 0
Before x y = before x y ≡ true

pub not_after_nil : (x : List ℕ) → NotAfter [] x
not_after_nil [] = refl
not_after_nil (a ∷ x) = refl

not_after_less : (a b : ℕ) (x y : List ℕ) → a < b → NotAfter (a ∷ x) (b ∷ y)
not_after_less a b x y h = rw (le-ltb b a (omega arith), ne_eqb b a (λ e. omega arith))

not_after_same : (a b : ℕ) (x y : List ℕ) → a ≡ b → NotAfter x y → NotAfter (a ∷ x) (b ∷ y)
not_after_same a b x y e h = rw e (lex_irr up b (before y x) h)

not_after_cons : (a b : ℕ) (x y : List ℕ) → NotAfter (a ∷ x) (b ∷ y) → (a < b) ⊎ ((a ≡ b) × NotAfter x y)
not_after_cons a b x y h =
    let (l, e) = neither (ltb b a) (eqb b a && before y x) h in
    elim (ℕ_discrete a b) [ yes q ↦ inr (q, rw (eq-eqb b a (sym q)) at e) | no ne ↦ inl (omega (arith, ltb-false b a l)) ]

pub not_after_before : (x y z : List ℕ) → NotAfter x y → Before y z → Before x z
not_after_before x y z h b =
    elim (tell (before x y)) [ inl e ↦ before_tr x y z e b | inr e ↦ rw (before_con x y e h) b ]

-- prefixes keep the order
pub not_after_take : (d : ℕ) (x y : List ℕ) → NotAfter x y → NotAfter (take d x) (take d y)
not_after_take zero x y h = refl
not_after_take (suc d) [] y h = not_after_nil (take (suc d) y)
not_after_take (suc d) (a ∷ x) [] h = absurd (true≢false h)
not_after_take (suc d) (a ∷ x) (b ∷ y) h =
    elim (not_after_cons a b x y h) [
      | inl l ↦ not_after_less a b (take d x) (take d y) l
      | inr r ↦ not_after_same a b (take d x) (take d y) r.0 (not_after_take d x y r.1)
    ]

pub before-take : (d : ℕ) (x y : List ℕ) → NotAfter x y → common x y < d → d ≤ length y → Before (take d x) (take d y)
before-take zero x y h c l = absurd (omega arith)
before-take (suc d) x [] h c l = absurd (omega arith)
before-take (suc d) [] (b ∷ y) h c l = refl
before-take (suc d) (a ∷ x) (b ∷ y) h c l =
    elim (not_after_cons a b x y h) [
      | inl k ↦ lex_first up a b (before (take d x) (take d y)) (lt-ltb a b k)
      | inr r ↦
          lex_then up a b (before (take d x) (take d y)) r.0
          (before-take d x y r.1 (omega (arith, common-same a b x y (eq-eqb a b r.0))) (omega arith))
    ]

pub take-common : (d : ℕ) (x y : List ℕ) → d ≤ common x y → take d x ≡ take d y
take-common d x y h = sym (take-take d (common x y) x h) ∙ ap (take d) (common-take x y) ∙ take-take d (common x y) y h

module _ (d : ℕ) where
  pub level_new : (p x : List ℕ) (xs : List (List ℕ)) → common p x < d → d ≤ length x → level d p (x ∷ xs) ≡ take d x ∷ level d x xs
  level_new p x xs h l = rw (and_intro _ _ (lt-ltb (common p x) d h) (le-leb d (length x) l), level)

  pub level_old : (p x : List ℕ) (xs : List (List ℕ)) → (d ≤ common p x) ⊎ (length x < d) → level d p (x ∷ xs) ≡ level d x xs
  level_old p x xs h =
      let t : ltb (common p x) d && leb d (length x) ≡ false =
      elim h [ inl c ↦ rw (le-ltb (common p x) d c) | inr l ↦ rw (lt-leb d (length x) l) (and-false (ltb (common p x) d)) ] in
      rw (t, level)

  pub by_new : {P : Type 0} (p x : List ℕ) → (common p x < d → d ≤ length x → P) → ((d ≤ common p x) ⊎ (length x < d) → P) → P
  by_new p x f g =
      elim (dec_lt (common p x) d) [
        | yes c ↦ elim (dec_lt (length x) d) [ yes l ↦ g (inr l) | no l ↦ f c (omega arith) ]
        | no c ↦ g (inl (omega arith))
      ]

  pub level_above : (p : List ℕ) (xs : List (List ℕ)) (w : List ℕ) → Asc NotAfter (p ∷ xs) → In w (level d p xs) → Before (take d p) w
  level_above p [] w a m = absurd (Memᴰ.not-nil m)
  level_above p (x ∷ xs) w a m =
      let h : NotAfter p x = a.0 x (Memᴰ.head refl) in
      let later : In w (level d x xs) → Before (take d p) w =
      λ k. not_after_before (take d p) (take d x) w (not_after_take d p x h) (level_above x xs w a.1 k) in
      by_new p x
      (λ c l. by_in (rw (level_new p x xs c l) at m) (λ e. rw e (before-take d p x h c l)) later)
      (λ o. later (rw (level_old p x xs o) at m))

  pub level_asc : (p : List ℕ) (xs : List (List ℕ)) → Asc NotAfter (p ∷ xs) → Asc Before (level d p xs)
  level_asc p [] a = tt
  level_asc p (x ∷ xs) a =
      by_new p x
      (λ c l. rw (level_new p x xs c l) ((λ w m. level_above x xs w a.1 m), level_asc x xs a.1))
      (λ o. rw (level_old p x xs o) (level_asc x xs a.1))

  pub in_level : (p : List ℕ) (xs : List (List ℕ)) (w : List ℕ) → In w (level d p xs) → (x : List ℕ) × In x xs × (d ≤ length x) × (w ≡ take d x)
  in_level p [] w m = absurd (Memᴰ.not-nil m)
  in_level p (x ∷ xs) w m =
      let Found : Type 0 = (y : List ℕ) × In y (x ∷ xs) × (d ≤ length y) × (w ≡ take d y) in
      let later : In w (level d x xs) → Found = λ k. let (y, i, h, e) = in_level x xs w k in (y, Memᴰ.tail i, h, e) in
      by_new p x
      (λ c l. by_in (rw (level_new p x xs c l) at m) (λ e. (x, Memᴰ.head refl, l, e)) later)
      (λ o. later (rw (level_old p x xs o) at m))

  pub level-length : (p : List ℕ) (xs : List (List ℕ)) (w : List ℕ) → In w (level d p xs) → length w ≡ d
  level-length p xs w m = let (x, i, h, e) = in_level p xs w m in ap length e ∙ length-take-le d x h

  -- a prefix of d letters is found, unless p has it too
  pub level_in : (p : List ℕ) (xs : List (List ℕ)) (x : List ℕ) → In x xs → d ≤ length x → In (take d x) (level d p xs) ⊎ (take d x ≡ take d p)
  level_in p [] x m h = absurd (Memᴰ.not-nil m)
  level_in p (y ∷ xs) x m h =
      by_new p y
      (λ c l. rw (level_new p y xs c l)
      (inl (by_in m (λ e. Memᴰ.head (ap (take d) e))
      (λ i. elim (level_in y xs x i h) [ inl k ↦ Memᴰ.tail k | inr e ↦ Memᴰ.head e ]))))
      (λ o. rw (level_old p y xs o)
      (by_in m (λ e. inr (old o x h (ap (take d) e)))
      (λ i. elim (level_in y xs x i h) [ inl k ↦ inl k | inr e ↦ inr (old o x h e) ])))
    where
      old : (d ≤ common p y) ⊎ (length y < d) → (x : List ℕ) → d ≤ length x → take d x ≡ take d y → take d x ≡ take d p
      old (inl c) x h e = e ∙ sym (take-common d p y c)
      old (inr l) x h e = absurd (omega (arith, ap length e, length-take-le d x h, length-take d y))

  abbrev nil : List ℕ
  nil = []

  pub level-some : (xs : List (List ℕ)) (x : List ℕ) → 1 ≤ d → d ≤ length x → In x xs → In (take d x) (level d [] xs)
  level-some xs x h l m =
      elim (level_in [] xs x m l) [ inl k ↦ k | inr e ↦ absurd (omega (arith, ap length e, length-take-le d x l, length-take d nil)) ]
