-- The last byte of a line or a text is the one at its last place.
use mathlib.Core.Path.{◌≡◌, refl}
use mathlib.Core.List.{List, [], ◌∷◌}
use Prim.Native.Nat.{ℕ, ◌-◌, ◌≤◌}
use native.Mathlib.Numerals.{sub-one}
use native.Mathlib.Omega.{arith}
use lib.ListN.{length, get_or}
use Rattle.words.specs.Lists.{last_or}

last_at : (d : ℕ) (xs : List ℕ) → last_or d xs ≡ get_or (d ∷ xs) (length xs) 0
last_at d [] = refl
last_at d (x ∷ xs) = last_at x xs

pub last_byte : (xs : List ℕ) → 1 ≤ length xs → last_or 0 xs ≡ get_or xs (length xs - 1) 0
last_byte [] h = absurd (omega arith)
last_byte (x ∷ xs) h = rw sub-one (last_at x xs)
