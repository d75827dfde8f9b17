-- The steps of the sort: the last members are in order, and the one before them is put into its place among them.
--   lay_behind k c     == the first of c is laid behind the k that follow it
--   insert_first lt c  == the first of c is put into its place among the others
--   Insertable s es c == c are numbers of slips of an accepted tray, at least one; the first is none of the others, and these are in order
use Rattle.std.specs.Prelude.{Bool, ℕ, ◌<◌, length, take, drop}
use mathlib.Core.List.{List, [], ◌∷◌, ◌++◌, Memᴰ}
use Rattle.words.specs.Lists.{insert, head_or, tail_of}
use Rattle.words.specs.Steps.Members.{Asc, Less}
use Rattle.trays.specs.Slips.{slips_of}
use Rattle.trie_order.specs.Order.{precedes, Members}

abbrev pub lay_behind : ℕ → List ℕ → List ℕ
lay_behind k [] = []
lay_behind k (x ∷ xs) = take k xs ++ (x ∷ drop k xs)

abbrev pub insert_first : (ℕ → ℕ → Bool) → List ℕ → List ℕ
insert_first lt [] = []
insert_first lt (x ∷ xs) = insert lt x xs

pub record Insertable (s es c : List ℕ) : Type 0 where
  pub some : 0 < length c
  pub members : Members s es c
  pub fresh : Memᴰ (head_or 0 c) (tail_of c) → ⊥
  pub ordered : Asc (Less (precedes (slips_of s es))) (tail_of c)
