-- Computed specimens of the definitions on strings and on lists. Modules are checked in the order of their names: an edited definition
-- is refused here first, where it computes another value.
--   Gives f rs  == f at the two words of each row of rs has the row's value
use mathlib.Core.Path.{◌≡◌, refl}
use mathlib.Core.Bool.{true, false}
use mathlib.Core.List.{List, [], ◌∷◌, map}
use Prim.Native.Nat.{ℕ}
use Prim.Native.String.{String}
use lib.Dec.{ltb}
use Rattle.words.specs.Lists.{each, those, any, up_from, insert, in_order, head_or, tail_of, last_or, over}
use Rattle.words.specs.Words.{same, begins, ends, ends_properly, stands_in, before, common, overlap, overlap_for, non_empty}
use Rattle.words.specs.Quoted.{word}

abbrev Row : Type 0 → Type 0
Row A = String × String × A

abbrev Gives : {A : Type 0} → (List ℕ → List ℕ → A) → List (Row A) → Type 0
Gives {A} f rs = map (λ (r : Row A). f (word r.0) (word r.1)) rs ≡ map (λ (r : Row A). r.2) rs

letters : word "A.Z" ≡ (65 ∷ 46 ∷ 90 ∷ [])
letters = refl

sames :
    Gives same
    (("", "", true)
    ∷ ("AVG", "AVG", true)
    ∷ ("", "A", false)
    ∷ ("A", "", false)
    ∷ ("AVG", "AVB", false)
    ∷ ("AVG", "CVG", false)
    ∷ [])
sames = refl

-- a prefix, perhaps empty, perhaps the whole word
prefixes :
    Gives begins
    (("", "AVG", true)
    ∷ ("CAES", "CAESAVG", true)
    ∷ ("AVG", "AVG", true)
    ∷ ("AVG", "AV", false)
    ∷ ("AVG", "CAESAVG", false)
    ∷ ("CAV", "CAESAVG", false)
    ∷ [])
prefixes = refl

suffixes :
    Gives ends
    (("", "AVG", true)
    ∷ ("AVG", "CAESAVG", true)
    ∷ ("AVG", "AVG", true)
    ∷ ("CAESAVG", "AVG", false)
    ∷ ("CAES", "CAESAVG", false)
    ∷ [])
suffixes = refl

proper_suffixes :
    Gives ends_properly
    (("", "AVG", true)
    ∷ ("AVG", "CAESAVG", true)
    ∷ ("AVG", "AVG", false)
    ∷ ("CAES", "CAESAVG", false)
    ∷ [])
proper_suffixes = refl

-- one stretch: at the start, inside, at the end, the whole; not in two pieces, and not the longer in the shorter
stretches :
    Gives stands_in
    (("", "", true)
    ∷ ("CAES", "CAESAVG", true)
    ∷ ("AES", "CAESAVG", true)
    ∷ ("AVG", "CAESAVG", true)
    ∷ ("AVG", "AVG", true)
    ∷ ("CAVG", "CAESAVG", false)
    ∷ ("CAESAVG", "AVG", false)
    ∷ [])
stretches = refl

-- byte order, the full stop before A; the first difference decides; a prefix before its longer words
dictionary :
    Gives before
    (("AB", "BA", true)
    ∷ ("BA", "AB", false)
    ∷ ("A.", "AA", true)
    ∷ ("AB", "AB", false)
    ∷ ("AB", "ABA", true)
    ∷ ("ABA", "AB", false)
    ∷ [])
dictionary = refl

commons :
    Gives common
    (("IMPCAES", "IMPAVG", 3)
    ∷ ("AVG", "AVG", 3)
    ∷ ("AVG", "AV", 2)
    ∷ ("AV", "AVG", 2)
    ∷ ("AVG", "CVG", 0)
    ∷ [])
commons = refl

-- the longest, perhaps a whole word, perhaps empty
pub overlaps :
    Gives overlap
    (("IMPCAES", "CAESAVG", 4)
    ∷ ("AVG", "AVG", 3)
    ∷ ("ANNA", "ANNA", 4)
    ∷ ("IMPCAES", "AES", 3)
    ∷ ("AVG", "AVGVST", 3)
    ∷ ("AB", "BA", 1)
    ∷ ("CD", "AB", 0)
    ∷ ("XABAB", "ABABX", 4)
    ∷ [])
overlaps = refl

-- the rule is asked of the overlap string itself
rules :
    map (λ c. overlap_for c (word "IMPCAES") (word "CAESAVG")) (non_empty ∷ same (word "CAES") ∷ same (word "IMPC") ∷ (λ x. false) ∷ [])
    ≡ (4 ∷ 4 ∷ 0 ∷ 0 ∷ [])
rules = refl

non_empties : map non_empty (word "" ∷ word "." ∷ []) ≡ (false ∷ true ∷ [])
non_empties = refl

anys : map (any (ltb 1)) ([] ∷ (1 ∷ 2 ∷ []) ∷ (1 ∷ 0 ∷ []) ∷ []) ≡ (false ∷ true ∷ false ∷ [])
anys = refl

lists :
    (each (λ n. up_from n 2) (5 ∷ 1 ∷ [])
    ∷ those (ltb 1) (2 ∷ 1 ∷ 3 ∷ [])
    ∷ up_from 3 3
    ∷ tail_of (4 ∷ 5 ∷ [])
    ∷ tail_of []
    ∷ over (1 ∷ 2 ∷ []) (7 ∷ 8 ∷ 9 ∷ [])
    ∷ [])
    ≡ ((5 ∷ 6 ∷ 1 ∷ 2 ∷ []) ∷ (2 ∷ 3 ∷ []) ∷ (3 ∷ 4 ∷ 5 ∷ []) ∷ (5 ∷ []) ∷ [] ∷ (1 ∷ 2 ∷ 9 ∷ []) ∷ [])
lists = refl

-- ascending, and none twice
ascending :
    (insert ltb 2 (1 ∷ 3 ∷ []) ∷ insert ltb 2 (1 ∷ 2 ∷ 3 ∷ []) ∷ in_order ltb (3 ∷ 1 ∷ 3 ∷ 2 ∷ []) ∷ [])
    ≡ ((1 ∷ 2 ∷ 3 ∷ []) ∷ (1 ∷ 2 ∷ 3 ∷ []) ∷ (1 ∷ 2 ∷ 3 ∷ []) ∷ [])
ascending = refl

firsts-and-lasts :
    ◌≡◌ {A = List ℕ}
    (head_or 9 [] ∷ head_or 9 (4 ∷ 5 ∷ []) ∷ last_or 9 [] ∷ last_or 9 (4 ∷ 5 ∷ []) ∷ [])
    (9 ∷ 4 ∷ 9 ∷ 5 ∷ [])
firsts-and-lasts = refl
