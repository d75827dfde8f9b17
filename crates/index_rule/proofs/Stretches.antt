-- The slips that start with typed letters t stand together in a list that ascends by letters, after those before t.
--   between, lower_back, starts_back == what stands before a slip that is before t, or that t begins
--   stretch_part  == those that t begins are a stretch of the list; stretch_end_lem == where it ends
--   stretch_is    == so of the index
--   stretch_holds, stretch_only == the stretch has the slips that start so, and no others
-- One induction over the list, by its head: before t, then it is dropped; begun by t, then nothing after it is before t; neither, then nothing
-- after it is begun by t.
use mathlib.Core.Path.{◌≡◌, refl, ap}
use mathlib.Core.Bool.{Bool, true, false, false≢true, ◌||◌}
use mathlib.Core.Logic.{inl, inr}
use mathlib.Core.List.{List, [], ◌∷◌}
use Prim.Native.Nat.{ℕ, ◌+◌, ◌≤◌}
use native.Mathlib.Omega.{arith}
use lib.Dec.{ltb}
use lib.ListN.{length, take, drop}
use Rattle.words.specs.Lists.{those}
use Rattle.words.specs.Words.{begins, before}
use Rattle.words.proofs.Tests.{tell, either, or_left, or_right, not_both}
use Rattle.words.proofs.Orders.{up, strings, before_tr, lex_first, lex_then, lex_cases}
use Rattle.words.proofs.Strings.{begins_cons, cons_begins}
use Rattle.words.proofs.Members.{In, Asc, Less, those-yes, those_no, those_in, in_those}
use Rattle.words.proofs.Picks.{those_none, those_all}
use Rattle.trays.specs.Slips.{slip}
use Rattle.index_rule.specs.Index.{precedes, index_of, stretch_for, start_at}
use Rattle.index_rule.proofs.Precedes.{index_asc, index_all, index_real}

-- x stands before y, which t begins: then x is before t, or t begins x
pub between : (t x y : List ℕ) → before x y ≡ true → begins t y ≡ true → before x t || begins t x ≡ true
between [] x y e h = or_right (before x []) (begins [] x) refl
between (a ∷ t) [] y e h = refl
between (a ∷ t) (b ∷ x) [] e h = absurd (false≢true h)
between (a ∷ t) (b ∷ x) (c ∷ y) e h =
    let (q, g) = cons_begins a c t y h in
    elim (lex_cases up b c (before x y) e) [
      | inl l ↦ or_left (before (b ∷ x) (a ∷ t)) (begins (a ∷ t) (b ∷ x)) (lex_first up b a (before x t) (rw q l))
      | inr l ↦
          elim (either (before x t) (begins t x) (between t x y l.1 g)) [
            | inl k ↦ or_left (before (b ∷ x) (a ∷ t)) (begins (a ∷ t) (b ∷ x)) (lex_then up b a (before x t) (rw q l.0) k)
            | inr k ↦ or_right (before (b ∷ x) (a ∷ t)) (begins (a ∷ t) (b ∷ x)) (begins_cons a b t x (rw (q, l.0)) k)
          ]
    ]

-- x is before t: then t does not begin it
before-not : (x t : List ℕ) → before x t ≡ true → begins t x ≡ false
before-not x [] e = absurd (false≢true (empty x e))
  where
    empty : (x : List ℕ) → before x [] ≡ true → false ≡ true
    empty [] e = e
    empty (b ∷ x) e = e
before-not [] (a ∷ t) e = refl
before-not (b ∷ x) (a ∷ t) e =
    elim (tell (begins (a ∷ t) (b ∷ x))) [
      | inr n ↦ n
      | inl y ↦
          let (q, g) = cons_begins a b t x y in
          elim (lex_cases up b a (before x t) e) [
            | inl l ↦ absurd (not_both (ltb a a) (rw (← q) at l) (up.irr a))
            | inr l ↦ absurd (not_both (begins t x) g (before-not x t l.1))
          ]
    ]

module _ (ss : List (List ℕ)) (t : List ℕ) where
  pub lower_back : (i k : ℕ) → Less (precedes ss) i k → before (slip ss k) t ≡ true → before (slip ss i) t ≡ true
  lower_back i k p e =
      elim (lex_cases strings (slip ss i) (slip ss k) (ltb i k) p) [ inl h ↦ before_tr (slip ss i) (slip ss k) t h e | inr h ↦ rw h.0 e ]

  pub starts_back : (i k : ℕ) → Less (precedes ss) i k → begins t (slip ss k) ≡ true → before (slip ss i) t || begins t (slip ss i) ≡ true
  starts_back i k p e =
      elim (lex_cases strings (slip ss i) (slip ss k) (ltb i k) p) [
        | inl h ↦ between t (slip ss i) (slip ss k) h e
        | inr h ↦ or_right (before (slip ss i) t) (begins t (slip ss i)) (rw h.0 e)
      ]

  abbrev low : ℕ → Bool
  low i = before (slip ss i) t

  abbrev starts : ℕ → Bool
  starts i = begins t (slip ss i)

  pub stretch_part : (M : List ℕ) → Asc (Less (precedes ss)) M → take (length (those starts M)) (drop (length (those low M)) M) ≡ those starts M
  stretch_part [] p = refl
  stretch_part (i ∷ M) p =
      elim (tell (low i)) [
        | inl l ↦ rw (those-yes low i M l, those_no starts i M (before-not (slip ss i) t l)) (stretch_part M p.1)
        | inr l ↦
            let none : those low M ≡ [] = those_none low M (λ k m.
            elim (tell (low k)) [ inl h ↦ absurd (not_both (low i) (lower_back i k (p.0 k m) h) l) | inr h ↦ h ]) in
            elim (tell (starts i)) [
              | inl s ↦
                  let rest : take (length (those starts M)) M ≡ those starts M = rw none at (stretch_part M p.1) in
                  rw (those_no low i M l, none, those-yes starts i M s) (ap (λ xs. i ∷ xs) rest)
              | inr s ↦
                  let empty : those starts M ≡ [] = those_none starts M (λ k m.
                  elim (tell (starts k)) [
                    | inl h ↦ absurd (not_both (low i || starts i) (starts_back i k (p.0 k m) h) (rw (l, s)))
                    | inr h ↦ h
                  ]) in
                  rw (those_no starts i M s, empty)
            ]
      ]

  pub stretch_end_lem : (M : List ℕ) → length (those (λ i. low i || starts i) M) ≡ length (those low M) + length (those starts M)
  stretch_end_lem [] = refl
  stretch_end_lem (i ∷ M) =
      elim (tell (low i)) [
        | inl l ↦
            let n = before-not (slip ss i) t l in
            rw (those-yes low i M l, those_no starts i M n, those-yes (λ k. low k || starts k) i M (or_left (low i) (starts i) l))
            (omega (arith, stretch_end_lem M))
        | inr l ↦
            elim (tell (starts i)) [
              | inl s ↦ rw (those_no low i M l, those-yes starts i M s, those-yes (λ k. low k || starts k) i M (or_right (low i) (starts i) s))
                  (omega (arith, stretch_end_lem M))
              | inr s ↦ rw (those_no low i M l, those_no starts i M s, those_no (λ k. low k || starts k) i M (rw (l, s))) (stretch_end_lem M)
            ]
      ]

  pub stretch_is : take (length (stretch_for ss t)) (drop (start_at ss t) (index_of ss)) ≡ stretch_for ss t
  stretch_is = stretch_part (index_of ss) (index_asc ss)

  pub stretch_holds : (i : ℕ) → 1 ≤ i → i ≤ length ss → begins t (slip ss i) ≡ true → In i (stretch_for ss t)
  stretch_holds i a b e = those_in starts (index_all ss i a b) e

  pub stretch_only : (i : ℕ) → In i (stretch_for ss t) → (1 ≤ i) × (i ≤ length ss) × (begins t (slip ss i) ≡ true)
  stretch_only i m =
      let (there, e) = in_those starts (index_of ss) m in
      let (least, most) = index_real ss i there in
      (least, most, e)

pub stretch_whole : (ss : List (List ℕ)) → stretch_for ss [] ≡ index_of ss
stretch_whole ss = those_all (λ i. begins [] (slip ss i)) (index_of ss) (λ i m. refl)
