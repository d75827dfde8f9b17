-- Slips laid in a given order as one chain.
--   weight counts ss l r     == how many letters slip r shares with slip l when it is laid after it
--   laid_after w p xs         == the pieces of the slips xs laid after slip p: each with its weight against the slip before it
--   along w p xs             == the sum of these weights
--   order_legend counts ss xs == the legend of the slips xs in their order
use Rattle.std.specs.Prelude.{Bool, List, [], ◌∷◌, ℕ, ◌+◌}
use Rattle.words.specs.Words.{overlap_for}
use Rattle.trays.specs.Slips.{slip}
use Rattle.greedy.specs.Legends.{Piece, piece, spelled}

abbrev pub weight : (List ℕ → Bool) → List (List ℕ) → ℕ → ℕ → ℕ
weight counts ss l r = overlap_for counts (slip ss l) (slip ss r)

abbrev pub laid_after : (ℕ → ℕ → ℕ) → ℕ → List ℕ → List Piece
laid_after w p [] = []
laid_after w p (x ∷ xs) = piece x (w p x) ∷ laid_after w x xs

abbrev pub along : (ℕ → ℕ → ℕ) → ℕ → List ℕ → ℕ
along w p [] = 0
along w p (x ∷ xs) = w p x + along w x xs

-- Rules: laid as one chain. No slip has the number 0, so before the first slip there are no letters, and it overlaps by 0.
abbrev pub order_legend : (List ℕ → Bool) → List (List ℕ) → List ℕ → List ℕ
order_legend counts ss xs = spelled ss (laid_after (weight counts ss) 0 xs)
