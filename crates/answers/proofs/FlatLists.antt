-- Joins, places, records of places and occurrences as numbers: how many, and which.
--   ..-length == so many numbers for each
--   ..-at     == number j of the one at index i; `at` is its index in the list of numbers
use mathlib.Core.Path.{◌≡◌, refl, ◌∙◌, ap}
use mathlib.Core.List.{List}
use Prim.Native.Nat.{ℕ, suc, ◌+◌, ◌*◌, ◌<◌}
use native.Mathlib.Numerals.{one-add}
use lib.ListN.{length, get_or}
use Rattle.words.proofs.Runs.{length-up_from, up_from_at}
use Rattle.words.proofs.FlatLists.{flat-length, flat_at}
use Rattle.trays.specs.Slips.{numbers}
use Rattle.greedy.specs.Joins.{Join, join}
use Rattle.greedy.specs.Composing.{Composing}
use Rattle.matching.specs.Occurrences.{Occurrence, occurrence}
use Rattle.answers.specs.Composing.{join_cells, join_numbers, flat_joins, place_cells, place_numbers, flat_places, record_cells, record_numbers, flat_records}
use Rattle.answers.specs.Finding.{found_numbers, flat_found}

pub joins_length : (js : List Join) → length (flat_joins js) ≡ join_cells * length js
joins_length = flat-length join_cells join_numbers (λ j. refl)

pub joins_at : (js : List Join) (i j at : ℕ) → i < length js → j < join_cells → at ≡ join_cells * i + j →
    get_or (flat_joins js) at 0 ≡ get_or (join_numbers (get_or js i (join 0 0 0))) j 0
joins_at = flat_at join_cells join_numbers (λ j. refl) (join 0 0 0)

pub found_length : (fs : List Occurrence) → length (flat_found fs) ≡ 2 * length fs
found_length = flat-length 2 found_numbers (λ f. refl)

pub found_at : (fs : List Occurrence) (i j at : ℕ) → i < length fs → j < 2 → at ≡ 2 * i + j →
    get_or (flat_found fs) at 0 ≡ get_or (found_numbers (get_or fs i (occurrence 0 0))) j 0
found_at = flat_at 2 found_numbers (λ f. refl) (occurrence 0 0)

-- of places the index counts slips: slip i + 1
module _ (c : Composing) where
  pub places_length : length (flat_places c) ≡ place_cells * length c.slips
  places_length = flat-length place_cells (place_numbers c) (λ i. refl) (numbers c.slips) ∙ rw (length-up_from 1 (length c.slips))

  pub places_at : (i j at : ℕ) → i < length c.slips → j < place_cells → at ≡ place_cells * i + j →
      get_or (flat_places c) at 0 ≡ get_or (place_numbers c (suc i)) j 0
  places_at i j at h l e =
      flat_at place_cells (place_numbers c) (λ n. refl) 0 (numbers c.slips) i j at (rw (length-up_from 1 (length c.slips)) h) l e
      ∙ ap (λ (n : ℕ). get_or (place_numbers c n) j 0) (up_from_at 1 (length c.slips) i h ∙ one-add i)

-- of records it counts members
module _ (c : Composing) (b : ℕ) where
  pub records_length : length (flat_records c b) ≡ record_cells * length c.members
  records_length = flat-length record_cells (record_numbers c b) (λ i. refl) c.members

  pub records_at : (i j at : ℕ) → i < length c.members → j < record_cells → at ≡ record_cells * i + j →
      get_or (flat_records c b) at 0 ≡ get_or (record_numbers c b (get_or c.members i 0)) j 0
  records_at = flat_at record_cells (record_numbers c b) (λ i. refl) 0 c.members
