-- A higher least overlap only leaves joins out. Arcs are taken by longer overlap first, so those with enough letters stand before all others, and
-- what is taken of them does not depend on what follows.
--   take-those      == where a test fails on all that follows a member on which it fails, it may be made before arcs are taken or behind
--   enough n a      == the arc a has n letters or more
--   ordered_fewer   == for the higher least overlap the arcs in their order are those with enough letters
--   plain_fewer     == and so are the joins
use mathlib.Core.Path.{◌≡◌, refl, sym, ap, ◌∙◌}
use mathlib.Core.Bool.{Bool, true, false}
use mathlib.Core.List.Memᴰ.{head as here}
use mathlib.Core.List.Memᴰ.{tail as there}
use mathlib.Core.List.{List, [], ◌∷◌, append-nil}
use mathlib.Core.Logic.{inl, inr}
use Prim.Native.Nat.{ℕ, ◌≤◌}
use native.Mathlib.Omega.{arith}
use lib.Dec.{leb}
use lib.ListN.{length}
use borrow.Author.Tests.{leb-true, leb-false, le-leb, lt-leb, ltb-true}
use Rattle.words.specs.Lists.{those}
use Rattle.words.proofs.Tests.{tell, both, not_both}
use Rattle.words.proofs.Members.{In, Asc, those-yes, those_no, those_in, in_those, those_append, asc_those, asc_one}
use Rattle.words.proofs.Picks.{those_none}
use Rattle.words.proofs.Orders.{down, lex_cases}
use Rattle.trays.specs.Slips.{slips_of, numbers}
use Rattle.trays.specs.Aside.{kept, not_stops, counted}
use Rattle.trays.proofs.Stops.{counted_counts, counted_long}
use Rattle.greedy.specs.Joins.{Join, free, string_of, first_arc, take_arc, take_arcs, plain_for}
use Rattle.greedy.specs.Claims.{FewerJoins}
use Rattle.greedy.proofs.Arcs.{Prior, first_arc_irr, first_arc_tr, by_strings, IsArc, ordered, arcs_sorted, string-length, in_arcs, arcs_in}

module _ (t : Join → Bool) where
  take-yes : (a : Join) (js : List Join) → t a ≡ true → those t js ≡ js → those t (take_arc a js) ≡ take_arc a js
  take-yes a js y e =
      elim (tell (free a.left a.right js))
      [ inl f ↦ rw (f, those_append t js (a ∷ []), those-yes t a [] y, e) | inr f ↦ rw f e ]

  take_no : (a : Join) (js : List Join) → t a ≡ false → those t (take_arc a js) ≡ those t js
  take_no a js n =
      elim (tell (free a.left a.right js))
      [ inl f ↦ rw (f, those_append t js (a ∷ []), those_no t a [] n) (append-nil (those t js)) | inr f ↦ rw f ]

  take_nos : (xs js : List Join) → ((x : Join) → In x xs → t x ≡ false) → those t (take_arcs xs js) ≡ those t js
  take_nos [] js n = refl
  take_nos (x ∷ xs) js n = take_nos xs (take_arc x js) (λ y m. n y (there m)) ∙ take_no x js (n x (here refl))

  take-those :
      (R : Join → Join → Type 0) → ((a b : Join) → R a b → t a ≡ false → t b ≡ false)
      → (xs js : List Join) → Asc R xs → those t js ≡ js → take_arcs (those t xs) js ≡ those t (take_arcs xs js)
  take-those R on [] js p e = sym e
  take-those R on (x ∷ xs) js p e =
      elim (tell (t x)) [
        | inl y ↦ rw (those-yes t x xs y) (take-those R on xs (take_arc x js) p.1 (take-yes x js y e))
        | inr n ↦
            let ns : (a : Join) → In a xs → t a ≡ false = λ a m. on x a (p.0 a m) n in
            rw (those_no t x xs n, those_none t xs ns) (sym (take_nos xs (take_arc x js) ns ∙ take_no x js n ∙ e))
      ]

abbrev enough : ℕ → Join → Bool
enough n a = leb n a.overlap

module _ (ss : List (List ℕ)) where
  -- no arc has more letters than one before it
  enough_falls : (n : ℕ) (a b : Join) → Prior ss a b → enough n a ≡ false → enough n b ≡ false
  enough_falls n a b p e =
      lt-leb n b.overlap
      (elim (lex_cases down a.overlap b.overlap (by_strings ss a b) p) [
        | inl t ↦ omega (arith, ltb-true b.overlap a.overlap t, leb-false n a.overlap e)
        | inr t ↦ omega (arith, t.0, leb-false n a.overlap e)
      ])

  module _ (K : List ℕ) where
    arc_least : (n : ℕ) (a : Join) → IsArc (counted n) ss K a → n ≤ a.overlap
    arc_least n a h =
        let x = string_of ss a in
        omega (arith, string-length (counted n) ss K a h, leb-true n (length x) (both (leb n (length x)) (not_stops x) h.counted).0)

    -- an arc that has enough letters for another least overlap is one there too
    arc_turn : (m n : ℕ) (a : Join) → IsArc (counted m) ss K a → n ≤ a.overlap → IsArc (counted n) ss K a
    arc_turn m n a h l =
        let x = string_of ss a in
        let some = (both (leb m (length x)) (not_stops x) h.counted).1 in
        let long : n ≤ length x = omega (arith, string-length (counted m) ss K a h) in
        record { left_in = h.left_in; right_in = h.right_in; other = h.other; size = h.size; counted = counted_long n x long ∙ some }

    ordered_fewer : (m n : ℕ) → m ≤ n → ordered (counted n) ss K ≡ those (enough n) (ordered (counted m) ss K)
    ordered_fewer m n le =
        let few = arcs_sorted (counted n) ss K in
        let all = arcs_sorted (counted m) ss K in
        asc_one (Prior ss) (λ a e. not_both (first_arc ss a a) e (first_arc_irr ss a)) (first_arc_tr ss) _ _
        few.asc (asc_those (Prior ss) (enough n) (ordered (counted m) ss K) all.asc)
        (λ a i.
        let h = in_arcs (counted n) ss K a (few.back a i) in
        let l = arc_least n a h in
        those_in (enough n) (all.into a (arcs_in (counted m) ss K (counted_counts m) a (arc_turn n m a h (omega arith)))) (le-leb n a.overlap l))
        (λ a i.
        let (j, t) = in_those (enough n) (ordered (counted m) ss K) i in
        let h = in_arcs (counted m) ss K a (all.back a j) in
        few.into a (arcs_in (counted n) ss K (counted_counts n) a (arc_turn m n a h (leb-true n a.overlap t))))

    pub plain_fewer : (m n : ℕ) → m ≤ n → plain_for (counted n) ss K ≡ those (enough n) (plain_for (counted m) ss K)
    plain_fewer m n le =
        ap (λ xs. take_arcs xs []) (ordered_fewer m n le)
        ∙ take-those (enough n) (Prior ss) (enough_falls n) (ordered (counted m) ss K) [] (arcs_sorted (counted m) ss K).asc refl

pub fewer_joins : FewerJoins
fewer_joins g h s es accepted le = let ss = slips_of s es in plain_fewer ss (kept ss (numbers ss)) g.least h.least le
