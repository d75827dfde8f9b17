-- The first elements that a function of numbers gives.
--   firsts f n == f 0, f 1, .., the first n of them
use Rattle.std.specs.Prelude.{List, map, ℕ}
use Rattle.words.specs.Lists.{up_from}

abbrev pub firsts : {A : Type 0} → (ℕ → A) → ℕ → List A
firsts f n = map f (up_from 0 n)
