-- The number in columns: behind the blanks before it, it is the number of what is left.
--   skip     == the blanks do not count
--   field-.. == the columns hold no digit, or digits from the place i on
use mathlib.Core.Path.{◌≡◌, refl, sym}
use mathlib.Core.List.{List, [], ◌∷◌}
use Prim.Native.Nat.{ℕ, suc, ◌-◌, ◌≤◌, ◌<◌}
use borrow.Author.Tests.{lt-leb, eq-eqb, ne_eqb, eqb-true}
use native.Mathlib.Numerals.{one-add}
use native.Mathlib.Omega.{arith}
use Rattle.std.specs.Prelude.{Some, None, true, false, not, ◌&&◌, position}
use Rattle.std.specs.List.{position_or_len}
use Rattle.std.proofs.lemmas.List.Quantifiers.{position-Some}
use Rattle.words.proofs.Tests.{by_test, not_both}
use Rattle.file_line.proofs.Places.{place_of, place_none}
use lib.ListN.{length, get_or, take, drop, length-drop, drop_of_length-le}
use lib.Seq.{drop-cons, take_all}
use lib.Dec.{eqb, leb}
use Rattle.file_rule.specs.Lines.{blank, number, field}

-- the place of the first column that is not blank, or how many columns there are
abbrev at_typed : List ℕ → ℕ
at_typed cs = position_or_len (λ c. not (eqb c blank)) cs

skip : (cs : List ℕ) → field cs ≡ field (drop (at_typed cs) cs)
skip [] = refl
skip (c ∷ cs) = by_test (eqb c blank) (λ e. rw (e, field, one-add) (skip cs)) (λ e. rw e)

pub field_none : (cs : List ℕ) → None ≡ position (λ c. not (eqb c blank)) cs → 0 ≡ field cs
field_none cs e = rw (skip cs, drop_of_length-le cs (place_none (λ c. not (eqb c blank)) cs e))

module _ (cs : List ℕ) (i : ℕ) (e : Some i ≡ position (λ c. not (eqb c blank)) cs) where
  there : (i ≡ at_typed cs) × (i < length cs)
  there = place_of (λ c. not (eqb c blank)) cs i e

  typed : get_or cs i 0 ≡ blank → ⊥
  typed z =
      let h = position-Some (λ c. not (eqb c blank)) cs i 0 (sym e) in
      let b : not (eqb (get_or cs i 0) blank) ≡ false = rw (eq-eqb _ _ z) refl in
      not_both _ h.1 b

  from : field cs ≡ field (drop i cs)
  from = rw there.0 (skip cs)

  -- the columns from i on
  abbrev rest : List ℕ
  rest = take (length cs - i) (drop i cs)

  rest_is : rest ≡ get_or cs i 0 ∷ drop (suc i) cs
  rest_is = let h : i < length cs = there.1 in rw (take_all (length cs - i) (drop i cs) (rw length-drop (omega arith))) (drop-cons cs i 0 h)

  field_is :
      field cs ≡ elim (eqb (get_or cs i 0) 48 && leb 1 (length (drop (suc i) cs))) [ true ↦ 0 | false ↦ number 0 (get_or cs i 0 ∷ drop (suc i) cs) ]
  field_is = let h : i < length cs = there.1 in rw (from, drop-cons cs i 0 h, ne_eqb _ _ typed, field)

  pub field-digits : (n : ℕ) → (get_or rest 0 0 ≡ 48 → length rest ≤ 1) → n ≡ number 0 rest → n ≡ field cs
  field-digits n z w =
      rw field_is
      (by_test (eqb (get_or cs i 0) 48)
      (λ e. let l : length (drop (suc i) cs) < 1 = omega (arith, rw rest_is at (z (rw rest_is (eqb-true _ _ e)))) in rw (e, lt-leb 1 _ l) (rw rest_is at w))
      (λ e. rw e (rw rest_is at w)))
