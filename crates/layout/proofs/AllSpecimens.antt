-- Computed specimens of the definitions on the tables. The outcomes are worked out by hand from the rules' sentences. Modules are checked in
-- the order of their names: an edited definition is refused here first.
--   visits   == the strings that the walk visits, for the slips AB and B
--   bases    == where the tables stand, in their order; where those of the search for the shortest legend and of one side stand, and where the last ends
use mathlib.Core.Path.{◌≡◌, refl}
use mathlib.Core.List.{List, [], ◌∷◌}
use Prim.Native.Nat.{ℕ, ◌+◌}
use lib.ListN.{get_or}
use Rattle.words.specs.Quoted.{word}
use Rattle.matching.specs.Steps.Nodes.{nodes_of}
use Rattle.layout.specs.Layout.{MEMBERS, ORDER, COMMON, LEVEL, AT, OWN, KID, NEAR, FAIL, HEAD, TWIN}
use Rattle.layout.specs.Layout.{MARK, KEPT, STARTS, STARTS_NEXT, ENDS, ENDS_NEXT, JOINS, PLACES, OUT, TALLY, SCAN, SEEK, NAMED, RECORDS, all_records}
use Rattle.layout.specs.Rows.{rows}

-- The nodes are the empty string, A, B, AB: those of one letter are from number 1 on, that of two letters is number 3.
abbrev pub visits : List (List ℕ)
visits = rows (word "AB" ∷ word "B" ∷ []) (λ d. get_or (0 ∷ 1 ∷ 3 ∷ 4 ∷ []) d 0) 2

pub visits_computed : visits ≡ (word "AB" ∷ word "A" ∷ word "B" ∷ [])
unfolding nodes_of
visits_computed = refl

-- Tables for 200 slips, 2,000 letters and 2,001 nodes.
abbrev pub bases : List ℕ
bases =
    MEMBERS ∷ ORDER ∷ COMMON ∷ LEVEL ∷ AT ∷ OWN ∷ KID ∷ NEAR ∷ FAIL ∷ HEAD ∷ TWIN ∷ MARK ∷ KEPT ∷ STARTS ∷ STARTS_NEXT ∷ ENDS ∷ ENDS_NEXT ∷ JOINS
    ∷ PLACES ∷ OUT ∷ TALLY ∷ SCAN ∷ SEEK ∷ NAMED ∷ RECORDS ∷ (RECORDS + all_records) ∷ []

pub bases_computed : bases
    ≡ (0 ∷ 200 ∷ 400 ∷ 600 ∷ 642 ∷ 2642 ∷ 4643 ∷ 6645 ∷ 7905 ∷ 9906 ∷ 11907 ∷ 12108 ∷ 14109 ∷ 14309 ∷ 16310 ∷ 18310 ∷ 20311 ∷ 22311
    ∷ 22911 ∷ 23511 ∷ 25512 ∷ 27513 ∷ 14309 ∷ 27513 ∷ 28113 ∷ 29113 ∷ [])
bases_computed = refl
