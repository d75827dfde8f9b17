-- Groups of places as marks in one number: place a is in the group g where the bit of 2 ^ a is 1.
--   bit g a     == that bit
--   rest_of g k  == those of the first k places that are not in the group g, ascending
use Rattle.std.specs.Prelude.{List, ℕ, zero, suc, ◌/◌, ◌%◌, eqb}
use Rattle.words.specs.Lists.{those, up_from}

abbrev pub bit : ℕ → ℕ → ℕ
bit g zero = g % 2
bit g (suc a) = bit (g / 2) a

abbrev pub rest_of : ℕ → ℕ → List ℕ
rest_of g k = those (λ a. eqb (bit g a) 0) (up_from 0 k)
