-- Letters written as a quoted text, for specimens.
use Rattle.std.specs.Prelude.{List, ℕ}
use Prim.Native.Char.{code}
use Prim.Native.String.{String}

-- the bytes of a text of ASCII characters
abbrev pub word : String → List ℕ
word String.[] = List.[]
word (String.◌∷◌ c s) = List.◌∷◌ (code c) (word s)
