-- Computed specimens of folding. Modules are checked in the order of their names: an edited definition is refused here first.
use mathlib.Core.Path.{◌≡◌, refl}
use mathlib.Core.List.{List, [], ◌∷◌, map}
use Prim.Native.Nat.{ℕ}
use Prim.Native.String.{String}
use lib.ListN.{replicate}
use Rattle.words.specs.Quoted.{word}
use Rattle.fold_rule.specs.Folding.{upper, die_sign, fold}

-- text as it is filed
abbrev filed : String → List ℕ
filed t = map fold (word t)

-- two steps: a small u is a capital U, and that is V on the die
steps :
    map upper (word "azAZ.`{") ∷ map die_sign (word "UJVIuj") ∷ []
    ≡ word "AZAZ.`{" ∷ word "VIVIuj" ∷ []
steps = refl

pub alphabets :
    map filed ("ABCDEFGHIJKLMNOPQRSTUVWXYZ" ∷ "abcdefghijklmnopqrstuvwxyz" ∷ [])
    ≡ word "ABCDEFGHIIKLMNOPQRSTVVWXYZ" ∷ word "ABCDEFGHIIKLMNOPQRSTVVWXYZ" ∷ []
unfolding fold
alphabets = refl

pub readings : map filed ("avg" ∷ "uj" ∷ "UVA" ∷ "Imp.CaeS" ∷ []) ≡ map word ("AVG" ∷ "VI" ∷ "VVA" ∷ "IMP.CAES" ∷ [])
unfolding fold
readings = refl

-- the neighbours of the signs, digits, blank, line ends, and bytes from 127 on
pub no_signs : (filed "@[`{-/09 \n\r" ∷ map fold (0 ∷ 127 ∷ 128 ∷ 193 ∷ 225 ∷ 255 ∷ []) ∷ []) ≡ (replicate 11 0 ∷ replicate 6 0 ∷ [])
unfolding fold
no_signs = refl
