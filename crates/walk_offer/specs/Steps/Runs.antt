-- Lists of slips threaded through the work area w of a tray with ends es, for the nodes of d letters.
--   along next n i           == the numbers from i on along next, up to 0, at most n
--   next_starter w es d r     == the slip behind r among those that begin with a node
--   next_ender w es d l       == the slip behind l among those that properly end with it
--   starters_at w es d v      == the slips that begin with node v
--   enders_from w es d l      == from l on, the slips that properly end with a node
--   enders_at w es d v        == those of node v
--   waiting_in right ls       == ls from its first slip without a right neighbour on
--   Real es d i              == i is a slip of the tray that ends d letters or more behind the tray's start
--   ListedFrom es d next i       == from i along next run such slips, ascending, then 0
use Rattle.std.specs.Prelude.{true, false, List, [], ◌∷◌, ℕ, zero, suc, ◌+◌, ◌-◌, ◌≤◌, ◌<◌, eqb, length, get_or}
use Rattle.words.specs.Steps.Members.{In, Asc}
use Rattle.trays.specs.Limits.{max_slips}
use Rattle.trays.specs.Slips.{start_of, end_of}
use Rattle.layout.specs.Layout.{STARTS, STARTS_NEXT, ENDS, ENDS_NEXT}
use Rattle.layout.specs.Tables.{cell, Threaded}

abbrev pub along : (ℕ → ℕ) → ℕ → ℕ → List ℕ
along next zero i = []
along next (suc n) zero = []
along next (suc n) (suc i) = suc i ∷ along next n (next (suc i))

abbrev pub next_starter : List ℕ → List ℕ → ℕ → ℕ → ℕ
next_starter w es d r = cell w STARTS_NEXT (start_of es r + d - 1)

abbrev pub next_ender : List ℕ → List ℕ → ℕ → ℕ → ℕ
next_ender w es d l = cell w ENDS_NEXT (end_of es l - d)

abbrev pub starters_from : List ℕ → List ℕ → ℕ → ℕ → List ℕ
starters_from w es d r = along (next_starter w es d) max_slips r

abbrev pub starters_at : List ℕ → List ℕ → ℕ → ℕ → List ℕ
starters_at w es d v = starters_from w es d (cell w STARTS v)

abbrev pub enders_from : List ℕ → List ℕ → ℕ → ℕ → List ℕ
enders_from w es d l = along (next_ender w es d) max_slips l

abbrev pub enders_at : List ℕ → List ℕ → ℕ → ℕ → List ℕ
enders_at w es d v = enders_from w es d (cell w ENDS v)

-- the mark of slip i in a list of marks
abbrev pub mark : List ℕ → ℕ → ℕ
mark xs i = get_or xs (i - 1) 0

abbrev pub waiting_in : List ℕ → List ℕ → List ℕ
waiting_in right [] = []
waiting_in right (l ∷ ls) = elim (eqb (mark right l) 0) [ true ↦ l ∷ ls | false ↦ waiting_in right ls ]

pub record Real (es : List ℕ) (d i : ℕ) : Type 0 where
  pub some : 1 ≤ i
  pub inside : i ≤ length es
  pub deep : d ≤ end_of es i

pub record ListedFrom (es : List ℕ) (d : ℕ) (next : ℕ → ℕ) (i : ℕ) : Type 0 where
  pub threaded : Threaded next i (along next max_slips i)
  pub ascending : Asc ◌<◌ (along next max_slips i)
  pub all : (x : ℕ) → In x (along next max_slips i) → Real es d x
