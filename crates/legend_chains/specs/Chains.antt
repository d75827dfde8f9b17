-- Chains read off the lists of neighbours.
--   chain_by right overs n i o     == slip i with overlap o, and the pieces of the n - 1 slips to its right, or as many as there are
--   chain_of left right overs n i  == the chain that slip i begins; none if it has a left neighbour
--   pieces_by left right overs n K == the chains of the slips of K that have no left neighbour, one after another
--   PiecesAsk                     == what putting them asks
use Rattle.std.specs.Prelude.{◌≡◌, true, false, List, [], ◌∷◌, ℕ, zero, suc, ◌-◌, ◌*◌, ◌≤◌, ◌<◌, eqb, length, get_or, take}
use Rattle.words.specs.Lists.{each}
use Rattle.trays.specs.Limits.{max_slips}
use Rattle.greedy.specs.Legends.{Piece, piece}

-- Rules: a chain is laid by its first slip, then the rest in the same manner with one slip fewer.
abbrev pub chain_by : List ℕ → List ℕ → ℕ → ℕ → ℕ → List Piece
chain_by right overs zero i o = []
chain_by right overs (suc n) zero o = []
chain_by right overs (suc n) (suc i) o = piece (suc i) o ∷ chain_by right overs n (get_or right i 0) (get_or overs i 0)

abbrev pub chain_of : List ℕ → List ℕ → List ℕ → ℕ → ℕ → List Piece
chain_of left right overs n i = elim (eqb (get_or left (i - 1) 0) 0) [ true ↦ chain_by right overs n i 0 | false ↦ [] ]

abbrev pub pieces_by : List ℕ → List ℕ → List ℕ → ℕ → List ℕ → List Piece
pieces_by left right overs n K = each (chain_of left right overs n) K

-- lists of 200 marks, each mark 0 or the number of a slip; real slips; and room
pub record PiecesAsk (kept : List ℕ) (n : ℕ) (left right overs : List ℕ) (turns : ℕ) (xs : List ℕ) : Type 0 where
  pub enough : n ≤ length kept
  pub real : (k : ℕ) → k < n → (1 ≤ get_or kept k 0) × (get_or kept k 0 ≤ max_slips)
  pub lefts : length left ≡ max_slips
  pub rights : length right ≡ max_slips
  pub overlaps : length overs ≡ max_slips
  pub right_small : (k : ℕ) → k < max_slips → get_or right k 0 ≤ max_slips
  pub cells : 2 * max_slips ≤ length xs
  pub room : length (pieces_by left right overs turns (take n kept)) ≤ max_slips
