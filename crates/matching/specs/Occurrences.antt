-- Occurrences of slips in a text.
--   Occurrence                == an occurrence: its end place, from 1, and its slip
--   first_here ss i k     == of two slips that end at one place, i is reported before k
--   ending_at ss t        == the slips that end the text t, in the order of report
--   occurrences ss t     == every occurrence of every slip, in the order of report
use Rattle.std.specs.Prelude.{Bool, ◌&&◌, ◌||◌, List, map, ℕ, eqb, ltb, length, take}
use Rattle.words.specs.Lists.{each, those, up_from, in_order}
use Rattle.words.specs.Words.{ends}
use Rattle.trays.specs.Slips.{slip, numbers}

pub record Occurrence : Type 0 where
  pub end : ℕ
  pub which : ℕ

abbrev pub occurrence : ℕ → ℕ → Occurrence
occurrence e i = record { end = e; which = i }

-- Rules: longer slip first, then lower number.
abbrev pub first_here : List (List ℕ) → ℕ → ℕ → Bool
first_here ss i k =
    ltb (length (slip ss k)) (length (slip ss i)) || (eqb (length (slip ss i)) (length (slip ss k)) && ltb i k)

abbrev pub ending_at : List (List ℕ) → List ℕ → List ℕ
ending_at ss t = in_order (first_here ss) (those (λ i. ends (slip ss i) t) (numbers ss))

-- Rules, finding: by end place, then longer slip first, then lower number.
abbrev pub occurrences : List (List ℕ) → List ℕ → List Occurrence
occurrences ss t = each (λ e. map (occurrence e) (ending_at ss (take e t))) (up_from 1 (length t))

-- the members of M whose slips end the text t, in the order of report
abbrev pub ending_of : List (List ℕ) → List ℕ → List ℕ → List ℕ
ending_of ss M t = in_order (first_here ss) (those (λ i. ends (slip ss i) t) M)
