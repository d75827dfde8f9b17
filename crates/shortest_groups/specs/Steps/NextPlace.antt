-- The place that is best laid next: the places that are not in the group g are tried one after another behind place a, which was laid last.
--   best_of v xs       == one more than the greatest v of a member of xs, and 0 if there is none: so a member whose v is 0 counts too
--   cell_of w g a      == the cell of group g and place a in the table of groups
--   saved_by w g a j   == what is saved where place j is laid behind a, and behind it all others as well as can be
--   value_of o, place_of o == one more than what the choice o saves, and its place; 0 and 0 where there is none
--   Seeking w g a j value which == of the first j places that are not in g, `which` is the first that saves most, and one less than `value` what it saves
--   StepAsks, BestAsks == what trying place j asks; what trying all k places asks
use Rattle.std.specs.Prelude.{◌≡◌, List, [], ◌∷◌, ℕ, suc, ◌+◌, ◌*◌, ◌^◌, ◌≤◌, ◌<◌, length, get_or, Option, None, Some}
use Rattle.trays.specs.Limits.{max_shortest}
use Rattle.shortest.specs.Steps.Choosing.{first_most}
use Rattle.shortest_groups.specs.declared.Choice.{Choice}
use Rattle.shortest_groups.specs.Groups.{pair_cells, group_cells, pairs_of}
use Rattle.shortest_groups.specs.Steps.Marks.{rest_of}

abbrev pub best_of : (ℕ → ℕ) → List ℕ → ℕ
best_of v [] = 0
best_of v (x ∷ xs) = suc (v (first_most v 0 (x ∷ xs)))

abbrev pub cell_of : List ℕ → ℕ → ℕ → ℕ
cell_of w g a = get_or w (pair_cells + (max_shortest * g + a)) 0

abbrev pub saved_by : List ℕ → ℕ → ℕ → ℕ → ℕ
saved_by w g a j = pairs_of w a j + cell_of w (g + 2 ^ j) j

abbrev pub value_of : Option Choice → ℕ
value_of None = 0
value_of (Some c) = suc c.saved

abbrev pub place_of : Option Choice → ℕ
place_of None = 0
place_of (Some c) = c.place

pub record Seeking (w : List ℕ) (g a j value which : ℕ) : Type 0 where
  pub value_is : value ≡ best_of (saved_by w g a) (rest_of g j)
  pub which_is : which ≡ first_most (saved_by w g a) 0 (rest_of g j)

pub record StepAsks (w : List ℕ) (g a j value which : ℕ) : Type 0 where
  pub room : pair_cells + group_cells ≤ length w
  pub group : g < 2 ^ max_shortest
  pub row : a ≤ max_shortest
  pub place : j < max_shortest
  pub sought : Seeking w g a j value which

pub record BestAsks (w : List ℕ) (k g a : ℕ) : Type 0 where
  pub room : pair_cells + group_cells ≤ length w
  pub few : k ≤ max_shortest
  pub group : g < 2 ^ k
  pub row : a ≤ max_shortest
