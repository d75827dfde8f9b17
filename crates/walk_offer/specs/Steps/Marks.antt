-- Lists of marks, one for each slip.
--   chain_ends xs             == a list of chain ends as a table; a slip beyond the list is its own
--   zeros xs              == how many marks of xs are 0
--   Marked js marks       == the joins js in the five lists of marks: left and right neighbours and overlaps, and the first and the last slip of a
--                            chain, each at its other end
use Rattle.std.specs.Prelude.{◌≡◌, List, ℕ, zero, suc, ◌+◌, ◌≤◌, eqb, length, get_or}
use Rattle.words.specs.Lists.{those}
use Rattle.trays.specs.Limits.{max_slips}
use Rattle.greedy.specs.Joins.{Join, right_of}
use Rattle.greedy.specs.Steps.Linked.{Chained}
use Rattle.greedy.specs.Steps.Linked.{Threads}
use Rattle.layout.specs.Staging.{Neighbours}
use Rattle.walk_offer.specs.declared.Marks.{Marks}

abbrev pub chain_ends : List ℕ → ℕ → ℕ
chain_ends xs zero = 0
chain_ends xs (suc i) = get_or xs i (suc i)

abbrev pub zeros : List ℕ → ℕ
zeros xs = length (those (λ x. eqb x 0) xs)

pub record Marked (js : List Join) (marks : Marks) : Type 0 where
  pub neighbours : Neighbours js marks.left marks.right marks.overs
  pub firsts : length marks.first ≡ max_slips
  pub lasts : length marks.last ≡ max_slips
  pub linked : Chained js
  pub threads : Threads js (chain_ends marks.last) (chain_ends marks.first)
  pub small : (i : ℕ) → right_of i js ≤ max_slips
  pub spare : length js + zeros marks.left ≡ max_slips
