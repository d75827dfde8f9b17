-- The calls for other languages: the answer is a list of numbers.
--   in_numbers r    == the answer of composing as eight numbers; search_numbers r == that of finding as four
--   shortest_numbers r == that of the shortest legend as fourteen: number, detail, letters, count and the order's ten
--   ComposeExported, FindExported, ShortestExported == what the calls leave; m is the least overlap, b the side named
use Rattle.std.specs.Prelude.{◌≡◌, List, [], ◌∷◌, map, ℕ, get_or}
use Rattle.words.specs.Lists.{up_from}
use Rattle.trays.specs.Limits.{max_shortest}
use Rattle.answers.specs.declared.Composed.{Composed}
use Rattle.answers.specs.declared.Search.{Search}
use Rattle.answers.specs.declared.Shortest.{Shortest}
use Rattle.answers.specs.Finding as F
use Rattle.answers.specs.Flat.{ComposeFlat}
use Rattle.answers.specs.Shortest.{ShortestSays}

abbrev pub in_numbers : Composed → List ℕ
in_numbers r =
    r.number ∷ (r.detail ∷ (r.slips ∷ (r.kept ∷ (r.letters ∷ (r.saved ∷ (r.legend ∷ (r.joins ∷ [])))))))

pub record ComposeExported (m b : ℕ) (s es cs w w' l l' j j' p p' a' : List ℕ) : Type 0 where
  pub answer : Composed
  pub says : ComposeFlat (record { least = m; side = b }) s es cs w w' l l' j j' p p' answer
  pub numbers_are : a' ≡ in_numbers answer

abbrev pub search_numbers : Search → List ℕ
search_numbers r = r.number ∷ (r.detail ∷ (r.moves ∷ (r.count ∷ [])))

pub record FindExported (s es t w w' o o' a' : List ℕ) : Type 0 where
  pub answer : Search
  pub says : F.FindFlat s es t w w' o o' answer
  pub numbers_are : a' ≡ search_numbers answer

abbrev pub shortest_numbers : Shortest → List ℕ
shortest_numbers r = r.number ∷ (r.detail ∷ (r.legend ∷ (r.count ∷ map (λ i. get_or r.order i 0) (up_from 0 max_shortest))))

pub record ShortestExported (m b : ℕ) (s es cs w w' l l' a' : List ℕ) : Type 0 where
  pub answer : Shortest
  pub says : ShortestSays (record { least = m; side = b }) s es cs w w' l l' answer
  pub numbers_are : a' ≡ shortest_numbers answer
