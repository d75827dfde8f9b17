-- Strict total orders given by tests, and the lexicographic step from one to the next.
--   Order lt eq  == lt is a strict total order and eq tells equality
--   up, down     == the order of numbers, and its converse
--   strings      == dictionary order
-- A lexicographic test is `lt u v || (eq u v && s)`, where s compares what comes next. Its laws hold for any Order, and s may be anything:
-- `before` is this step once for each letter.
use mathlib.Core.Path.{◌≡◌, refl, ap₂, ◌∙◌}
use mathlib.Core.Bool.{Bool, true, false, true≢false, false≢true, ◌&&◌, ◌||◌}
use mathlib.Core.Logic.{◌⊎◌, inl, inr}
use mathlib.Core.List.{List, [], ◌∷◌}
use Prim.Native.Nat.{ℕ}
use native.Mathlib.Omega.{arith}
use lib.Dec.{eqb, ltb}
use borrow.Author.Tests.{ltb-true, ltb-false, lt-ltb, le-ltb, eqb-true, eq-eqb}
use Rattle.words.specs.Words.{same, before}
use Rattle.words.proofs.Tests.{both, either, neither, and_intro, or_left, or_right}

pub record Order {A : Type 0} (lt eq : A → A → Bool) : Type 0 where
  pub irr : (a : A) → lt a a ≡ false
  pub tr : (a b c : A) → lt a b ≡ true → lt b c ≡ true → lt a c ≡ true
  pub con : (a b : A) → lt a b ≡ false → lt b a ≡ false → a ≡ b
  pub is : (a b : A) → eq a b ≡ true → a ≡ b
  pub at : (a : A) → eq a a ≡ true

module _ {A : Type 0} {lt eq : A → A → Bool} (O : Order lt eq) where
  pub lex_first : (u v : A) (s : Bool) → lt u v ≡ true → lt u v || (eq u v && s) ≡ true
  lex_first u v s e = or_left (lt u v) (eq u v && s) e

  pub lex_then : (u v : A) (s : Bool) → u ≡ v → s ≡ true → lt u v || (eq u v && s) ≡ true
  lex_then u v s e h = or_right (lt u v) (eq u v && s) (and_intro (eq u v) s (rw e (O.at v)) h)

  pub lex_irr : (u : A) (s : Bool) → s ≡ false → lt u u || (eq u u && s) ≡ false
  lex_irr u s e = rw (O.irr u, O.at u) e

  pub lex_cases : (u v : A) (s : Bool) → lt u v || (eq u v && s) ≡ true → (lt u v ≡ true) ⊎ ((u ≡ v) × (s ≡ true))
  lex_cases u v s e =
      elim (either (lt u v) (eq u v && s) e) [ inl h ↦ inl h | inr h ↦ let r = both (eq u v) s h in inr (O.is u v r.0, r.1) ]

  pub lex_tr : (u v w : A) (s t r : Bool) → (s ≡ true → t ≡ true → r ≡ true) → lt u v || (eq u v && s) ≡ true → lt v w || (eq v w && t) ≡ true →
      lt u w || (eq u w && r) ≡ true
  lex_tr u v w s t r next e f =
      elim (lex_cases u v s e) [
        | inl h ↦ elim (lex_cases v w t f) [ inl k ↦ lex_first u w r (O.tr u v w h k) | inr k ↦ lex_first u w r (rw k.0 at h) ]
        | inr h ↦ elim (lex_cases v w t f) [ inl k ↦ lex_first u w r (rw h.0 k) | inr k ↦ lex_then u w r (h.0 ∙ k.0) (next h.1 k.1) ]
      ]

  pub lex_con : {E : Type 0} (u v : A) (s t : Bool) → (s ≡ false → t ≡ false → E) → lt u v || (eq u v && s) ≡ false →
      lt v u || (eq v u && t) ≡ false → (u ≡ v) × E
  lex_con u v s t next e f =
      let p = neither (lt u v) (eq u v && s) e in
      let q = neither (lt v u) (eq v u && t) f in
      let h : u ≡ v = O.con u v p.0 q.0 in
      (h, next (rw (h, O.at v) at p.1) (rw (h, O.at v) at q.1))

pub up : Order ltb eqb
up =
    record {
      irr = λ a. le-ltb a a (omega arith);
      tr = λ a b c e f. lt-ltb a c (omega (arith, ltb-true a b e, ltb-true b c f));
      con = λ a b e f. omega (arith, ltb-false a b e, ltb-false b a f);
      is = eqb-true;
      at = λ a. eq-eqb a a refl;
    }

pub down : Order (λ m n. ltb n m) eqb
down =
    record {
      irr = up.irr;
      tr = λ a b c e f. up.tr c b a f e;
      con = λ a b e f. up.con a b f e;
      is = up.is;
      at = up.at;
    }

pub same-is : (x y : List ℕ) → same x y ≡ true → x ≡ y
same-is [] [] e = refl
same-is [] (y ∷ ys) e = absurd (false≢true e)
same-is (x ∷ xs) [] e = absurd (false≢true e)
same-is (x ∷ xs) (y ∷ ys) e = let r = both (eqb x y) (same xs ys) e in ap₂ ◌∷◌ (eqb-true x y r.0) (same-is xs ys r.1)

pub same_trans : (x y z : List ℕ) → same x y ≡ true → same y z ≡ true → same x z ≡ true
same_trans x y z e f = rw (same-is x y e) f

pub same_at : (x : List ℕ) → same x x ≡ true
same_at [] = refl
same_at (x ∷ xs) = and_intro (eqb x x) (same xs xs) (up.at x) (same_at xs)

pub before_irr : (x : List ℕ) → before x x ≡ false
before_irr [] = refl
before_irr (x ∷ xs) = lex_irr up x (before xs xs) (before_irr xs)

pub before_tr : (x y z : List ℕ) → before x y ≡ true → before y z ≡ true → before x z ≡ true
before_tr [] [] z e f = f
before_tr [] (y ∷ ys) [] e f = f
before_tr [] (y ∷ ys) (z ∷ zs) e f = refl
before_tr (x ∷ xs) [] z e f = absurd (false≢true e)
before_tr (x ∷ xs) (y ∷ ys) [] e f = f
before_tr (x ∷ xs) (y ∷ ys) (z ∷ zs) e f = lex_tr up x y z (before xs ys) (before ys zs) (before xs zs) (before_tr xs ys zs) e f

pub before_con : (x y : List ℕ) → before x y ≡ false → before y x ≡ false → x ≡ y
before_con [] [] e f = refl
before_con [] (y ∷ ys) e f = absurd (true≢false e)
before_con (x ∷ xs) [] e f = absurd (true≢false f)
before_con (x ∷ xs) (y ∷ ys) e f =
    let r = lex_con up x y (before xs ys) (before ys xs) (before_con xs ys) e f in
    ap₂ ◌∷◌ r.0 r.1

pub strings : Order before same
strings = record { irr = before_irr; tr = before_tr; con = before_con; is = same-is; at = same_at }
