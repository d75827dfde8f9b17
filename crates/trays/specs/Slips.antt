-- A tray is a run of letters s and a list of ends es; its slips are numbered from 1.
--   slips_of s es   == the slips of a tray, as strings
--   slip ss i      == the letters of slip i; no letters where there is no such slip
--   numbers ss     == 1, 2, .. up to the count of slips
--   only ss M      == the slips numbered in M, as slips of their own
--   stop           == the full stop
--   is_letter b     == b is one of the 27 signs
--   start_of es i   == where slip i starts, the end before it
--   end_of es i     == where slip i ends
--   span_of es i    == the two together
--   total ss K     == the letters of the slips numbered in K, counted together
use Rattle.std.specs.Prelude.{Bool, ◌&&◌, ◌||◌, List, [], ◌∷◌, map, ℕ, zero, suc, ◌+◌, ◌-◌, eqb, leb, length, get_or, take, drop}
use Rattle.words.specs.Lists.{up_from, entry}
use Rattle.trays.specs.declared.Span.{Span}

-- Rules: slip 1 runs from the start to the first end, slip i from the end before it to its own.
abbrev pub slips_from : ℕ → List ℕ → List ℕ → List (List ℕ)
slips_from here s [] = []
slips_from here s (e ∷ es) = take (e - here) s ∷ slips_from e (drop (e - here) s) es

abbrev pub slips_of : List ℕ → List ℕ → List (List ℕ)
slips_of s es = slips_from 0 s es

abbrev pub slip : List (List ℕ) → ℕ → List ℕ
slip ss zero = []
slip ss (suc i) = get_or ss i []

abbrev pub numbers : List (List ℕ) → List ℕ
numbers ss = up_from 1 (length ss)

abbrev pub only : List (List ℕ) → List ℕ → List (List ℕ)
only ss M = map (slip ss) M

abbrev pub stop : ℕ
stop = 46

-- Rules: capitals A to Z and the full stop.
abbrev pub is_letter : ℕ → Bool
is_letter b = eqb b stop || (leb 65 b && leb b 90)

abbrev pub end_of : List ℕ → ℕ → ℕ
end_of es i = entry es i

abbrev pub start_of : List ℕ → ℕ → ℕ
start_of es zero = 0
start_of es (suc i) = end_of es i

abbrev pub span_of : List ℕ → ℕ → Span
span_of es i = record { start = start_of es i; end = end_of es i }

abbrev pub total : List (List ℕ) → List ℕ → ℕ
total ss [] = 0
total ss (i ∷ is) = length (slip ss i) + total ss is
