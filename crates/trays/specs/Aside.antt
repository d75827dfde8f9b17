-- Slips set aside and slips kept, among the members M of a tray (here all its slips).
--   aside_for ss i k   == slip i is set aside because of slip k
--   is_aside ss M i    == slip i is set aside because of some member
--   kept ss M         == the members that are not set aside, ascending if M is
--   not_stops x        == some letter of x is no stop
--   counted m x       == an overlap string x counts, where the least overlap is m
use Rattle.std.specs.Prelude.{Bool, ◌&&◌, ◌||◌, not, List, ℕ, eqb, ltb, leb, length}
use Rattle.words.specs.Lists.{those, any}
use Rattle.words.specs.Words.{same, stands_in}
use Rattle.trays.specs.Slips.{slip, stop}

-- Rules, set aside: its letters stand in a longer slip, or equal those of a lower-numbered slip.
abbrev pub aside_for : List (List ℕ) → ℕ → ℕ → Bool
aside_for ss i k =
    (ltb (length (slip ss i)) (length (slip ss k)) && stands_in (slip ss i) (slip ss k)) || (ltb k i && same (slip ss i) (slip ss k))

abbrev pub is_aside : List (List ℕ) → List ℕ → ℕ → Bool
is_aside ss M i = any (aside_for ss i) M

-- Rules, set aside: the others are kept.
abbrev pub kept : List (List ℕ) → List ℕ → List ℕ
kept ss M = those (λ i. not (is_aside ss M i)) M

-- Rules, overlap: a string of full stops alone does not count, and the empty one has no other letter.
abbrev pub not_stops : List ℕ → Bool
not_stops x = any (λ b. not (eqb b stop)) x

-- Rules, least overlap: nor does one of fewer letters. The one rule that the pair query, the joins, the walk and the legends go by.
abbrev pub counted : ℕ → List ℕ → Bool
counted m x = leb m (length x) && not_stops x
