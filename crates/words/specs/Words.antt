-- Strings of letters; a letter is its byte, and the order of letters is byte order.
--   same x y           == x and y are equal
--   begins x y         == x is a prefix of y, perhaps all of it
--   ends x y           == x is a suffix of y, perhaps all of it
--   ends_properly x y   == x is a suffix of y and shorter
--   stands_in x y       == x stands in y as one stretch
--   before x y         == x is smaller than y in dictionary order, a prefix before its longer words
--   common x y         == how many letters the longest common prefix of x and y has
--   overlap x y        == the length of the longest suffix of x that is a prefix of y
--   overlap_for c x y   == that length if the overlap string counts by the rule c, else 0
--   non_empty x         == x has a letter
use Rattle.std.specs.Prelude.{Bool, true, false, ◌&&◌, ◌||◌, List, [], ◌∷◌, ℕ, suc, ◌-◌, eqb, ltb, leb, length, take, drop}

abbrev pub same : List ℕ → List ℕ → Bool
same [] [] = true
same [] (y ∷ ys) = false
same (x ∷ xs) [] = false
same (x ∷ xs) (y ∷ ys) = eqb x y && same xs ys

abbrev pub begins : List ℕ → List ℕ → Bool
begins [] ys = true
begins (x ∷ xs) [] = false
begins (x ∷ xs) (y ∷ ys) = eqb x y && begins xs ys

abbrev pub ends : List ℕ → List ℕ → Bool
ends x y = leb (length x) (length y) && same (drop (length y - length x) y) x

abbrev pub ends_properly : List ℕ → List ℕ → Bool
ends_properly x y = ltb (length x) (length y) && same (drop (length y - length x) y) x

abbrev pub stands_in : List ℕ → List ℕ → Bool
stands_in x [] = begins x []
stands_in x (y ∷ ys) = begins x (y ∷ ys) || stands_in x ys

abbrev pub before : List ℕ → List ℕ → Bool
before [] [] = false
before [] (y ∷ ys) = true
before (x ∷ xs) [] = false
before (x ∷ xs) (y ∷ ys) = ltb x y || (eqb x y && before xs ys)

abbrev pub common : List ℕ → List ℕ → ℕ
common [] ys = 0
common (x ∷ xs) [] = 0
common (x ∷ xs) (y ∷ ys) = elim (eqb x y) [ true ↦ suc (common xs ys) | false ↦ 0 ]

-- Rules, overlap: the longest string that ends the one and begins the other, perhaps a whole slip, perhaps empty.
abbrev pub overlap : List ℕ → List ℕ → ℕ
overlap [] ys = 0
overlap (x ∷ xs) ys = elim (begins (x ∷ xs) ys) [ true ↦ suc (length xs) | false ↦ overlap xs ys ]

abbrev pub overlap_for : (List ℕ → Bool) → List ℕ → List ℕ → ℕ
overlap_for counts x y = let o = overlap x y in elim (counts (take o y)) [ true ↦ o | false ↦ 0 ]

abbrev pub non_empty : List ℕ → Bool
non_empty [] = false
non_empty (x ∷ xs) = true
