-- Answers as numbers, for calls on one slip, on a pair, on a tray file, on two trays and on the index. Those of composing and finding stand in answers.
--   refusal_numbers r == number, detail
--   slip_numbers r    == number, detail, start, end
--   pair_numbers r    == number, detail, letters shared
--   written_numbers r == number, detail, letters, slips
--   SlipExported, PairExported, ReadExported, MergeExported, IndexExported, BeginningExported == what the calls leave; m is the least overlap
use Rattle.std.specs.Prelude.{◌≡◌, List, [], ◌∷◌, ℕ}
use Rattle.trays.specs.declared.Refusal.{Refusal}
use Rattle.trays.specs.declared.Located.{Located}
use Rattle.trays.specs.declared.Pair.{Pair}
use Rattle.trays.specs.Answers.{located_of, pair_of}
use Rattle.trays.specs.declared.Written.{Written}
use Rattle.file_rule.specs.Answers.{ReadSays}
use Rattle.merge_rule.specs.Merging.{MergeSays}
use Rattle.index_rule.specs.Answers.{IndexBuilt, place_for}

abbrev pub refusal_numbers : Refusal → List ℕ
refusal_numbers r = r.number ∷ (r.detail ∷ [])

abbrev pub slip_numbers : Located → List ℕ
slip_numbers r = r.number ∷ (r.detail ∷ (r.start ∷ (r.end ∷ [])))

abbrev pub pair_numbers : Pair → List ℕ
pair_numbers r = r.number ∷ (r.detail ∷ (r.letters ∷ []))

abbrev pub written_numbers : Written → List ℕ
written_numbers r = r.number ∷ (r.detail ∷ (r.letters ∷ (r.slips ∷ [])))

pub record SlipExported (s es : List ℕ) (i : ℕ) (a' : List ℕ) : Type 0 where
  pub answer : Located
  pub says : answer ≡ located_of s es i
  pub numbers_are : a' ≡ slip_numbers answer

pub record PairExported (m : ℕ) (s es cs : List ℕ) (i j : ℕ) (a' : List ℕ) : Type 0 where
  pub answer : Pair
  pub says : answer ≡ pair_of m s es cs i j
  pub numbers_are : a' ≡ pair_numbers answer

pub record ReadExported (file ls ls' es es' cs cs' a' : List ℕ) : Type 0 where
  pub answer : Written
  pub says : ReadSays file ls ls' es es' cs cs' answer
  pub numbers_are : a' ≡ written_numbers answer

-- the trays s, es, cs and t, fs, ds; lent letters a, ends b and sides d before, a', b' and d' after
pub record MergeExported (s es cs t fs ds a a' b b' d d' n' : List ℕ) : Type 0 where
  pub answer : Written
  pub says : MergeSays s es cs t fs ds a a' b b' d d' answer
  pub numbers_are : n' ≡ written_numbers answer

-- the lent list x before, x' after
pub record IndexExported (s es cs x x' a' : List ℕ) : Type 0 where
  pub answer : Refusal
  pub says : IndexBuilt s es cs x x' answer
  pub numbers_are : a' ≡ refusal_numbers answer

-- the index x, and the typed letters t
pub record BeginningExported (s es cs x t a' : List ℕ) : Type 0 where
  pub answer : Located
  pub says : answer ≡ place_for s es cs x t
  pub numbers_are : a' ≡ slip_numbers answer
