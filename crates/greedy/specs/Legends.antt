-- The legend, laid chain after chain, and the places of the slips in it.
--   Piece                 == a slip to be laid and its overlap with the slip laid before it in its chain
--   chain_from n js i o    == slip i with overlap o, and the pieces of the n - 1 slips to its right, or as many as there are
--   pieces js K           == the chains one after another, by ascending number of their first slip
--   spelled ss ps         == the letters of the pieces ps, laid
--   legend_for counts ss M == the legend of the members M of a tray
--   place_in ss i p ps     == where slip i is laid, if the pieces ps are laid from place p on; 0 if it is not among them
--   lowest p x t          == the lowest place at which x stands in t, counted from p
--   place_for counts ss M i == the place of slip i
--   agreeing x t          == how many letters of x agree with the first letters of t, from the last letter of x backwards
--   tried_at x t           == the letters compared where x is tried at the first place of t
--   tried x t             == those compared at all places of t up to the lowest at which x stands
--   compared_for counts ss M i == the letters compared to find the place of slip i
use Rattle.std.specs.Prelude.{Bool, true, false, cond, List, [], ◌∷◌, reverse, ℕ, zero, suc, ◌+◌, ◌-◌, eqb, ltb, length, take, drop}
use Rattle.words.specs.Lists.{each}
use Rattle.words.specs.Words.{begins, common}
use Rattle.trays.specs.Slips.{slip}
use Rattle.trays.specs.Aside.{is_aside, kept}
use Rattle.greedy.specs.Joins.{Join, right_of, left_of, plain_for}

pub record Piece : Type 0 where
  pub number : ℕ
  pub overlap : ℕ

abbrev pub piece : ℕ → ℕ → Piece
piece i o = record { number = i; overlap = o }

-- the overlap of slip i with its right neighbour
abbrev pub overlap_after : ℕ → List Join → ℕ
overlap_after i [] = 0
overlap_after i (j ∷ js) = elim (eqb i j.left) [ true ↦ j.overlap | false ↦ overlap_after i js ]

abbrev pub chain_from : ℕ → List Join → ℕ → ℕ → List Piece
chain_from zero js i o = []
chain_from (suc n) js i o =
    elim (eqb i 0) [ true ↦ [] | false ↦ piece i o ∷ chain_from n js (right_of i js) (overlap_after i js) ]

-- Rules: a chain runs from a slip without a left neighbour; it has at most one slip more than there are joins.
abbrev pub chain_at : List Join → ℕ → List Piece
chain_at js i = elim (eqb (left_of i js) 0) [ true ↦ chain_from (suc (length js)) js i 0 | false ↦ [] ]

-- Rules: chains, single slips included, stand one after another by ascending number of their first slip.
abbrev pub pieces : List Join → List ℕ → List Piece
pieces js K = each (chain_at js) K

-- Rules: each slip adds its letters beyond the overlap.
abbrev pub added : List (List ℕ) → Piece → List ℕ
added ss p = drop p.overlap (slip ss p.number)

abbrev pub spelled : List (List ℕ) → List Piece → List ℕ
spelled ss ps = each (added ss) ps

abbrev pub pieces_for : (List ℕ → Bool) → List (List ℕ) → List ℕ → List Piece
pieces_for counts ss M = let K = kept ss M in pieces (plain_for counts ss K) K

abbrev pub legend_for : (List ℕ → Bool) → List (List ℕ) → List ℕ → List ℕ
legend_for counts ss M = spelled ss (pieces_for counts ss M)

abbrev pub place_in : List (List ℕ) → ℕ → ℕ → List Piece → ℕ
place_in ss i here [] = 0
place_in ss i here (p ∷ ps) =
    elim (eqb i p.number) [ true ↦ here - p.overlap | false ↦ place_in ss i (here + length (added ss p)) ps ]

abbrev pub lowest : ℕ → List ℕ → List ℕ → ℕ
lowest p x [] = p
lowest p x (y ∷ ys) = elim (begins x (y ∷ ys)) [ true ↦ p | false ↦ lowest (suc p) x ys ]

-- Rules, place: for a kept slip, where it was laid; for one set aside, the lowest place at which it stands.
abbrev pub place_for : (List ℕ → Bool) → List (List ℕ) → List ℕ → ℕ → ℕ
place_for counts ss M i =
    elim (is_aside ss M i)
    [ true ↦ lowest 1 (slip ss i) (legend_for counts ss M) | false ↦ place_in ss i 1 (pieces_for counts ss M) ]

-- Rules: letters are compared from the last one backwards.
abbrev pub agreeing : List ℕ → List ℕ → ℕ
agreeing x t = common (reverse x) (reverse (take (length x) t))

-- Rules: those that agree and, if any, the one that differs; a place where the slip would not fit is not tried.
abbrev pub tried_at : List ℕ → List ℕ → ℕ
tried_at x t = cond (ltb (length t) (length x)) 0 (agreeing x t + cond (begins x t) 0 1)

-- Rules: at each place, from 1 upwards, until the slip stands there.
abbrev pub tried : List ℕ → List ℕ → ℕ
tried x [] = 0
tried x (y ∷ ys) = tried_at x (y ∷ ys) + cond (begins x (y ∷ ys)) 0 (tried x ys)

-- Rules: 0 for a kept slip.
abbrev pub compared_for : (List ℕ → Bool) → List (List ℕ) → List ℕ → ℕ → ℕ
compared_for counts ss M i = cond (is_aside ss M i) (tried (slip ss i) (legend_for counts ss M)) 0
