-- Occurrences stored as numbers.
--   FlatTo .. i o o'   == the first i occurrences are written over the numbers o
--   CanFlat, NumbersStored == what storing count of them asks, and leaves
use Rattle.std.specs.Prelude.{◌≡◌, List, ℕ, ◌*◌, ◌≤◌, length, take}
use Rattle.words.specs.Lists.{over}
use Rattle.trays.specs.Slips.{slips_of}
use Rattle.matching.specs.Occurrences.{occurrences}
use Rattle.answers.specs.Finding.{flat_found}
use Rattle.find_core.specs.Steps.Searching.{Enough, Left}

abbrev pub FlatTo : List ℕ → List ℕ → List ℕ → ℕ → List ℕ → List ℕ → Type 0
FlatTo s es t i o o' = o' ≡ over (flat_found (take i (occurrences (slips_of s es) t))) o

pub record CanFlat (s es t : List ℕ) (count : ℕ) (w o : List ℕ) : Type 0 where
  pub room : 2 * count ≤ length o
  pub enough : Enough s es t count w

pub record NumbersStored (s es t : List ℕ) (count : ℕ) (w w' o o' : List ℕ) : Type 0 where
  pub found_are : FlatTo s es t count o o'
  pub left : Left s es t count w w'
