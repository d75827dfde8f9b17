-- The vocabulary of lists in which the definitions are written.
--   each f xs       == the lists f x, for x in xs, one after another
--   those t xs      == the members of xs that pass the test t, in their order
--   any t xs        == some member of xs passes the test t
--   up_from i n      == the n numbers i, i + 1, ..
--   insert lt x ys  == ys, ascending by lt, with x put into its place unless it is there
--   in_order lt xs   == the different members of xs, ascending by lt
--   head_or, tail_of  == the first member, or the default; the others
--   last_or d xs     == the last member, or the default d
--   entry xs i      == the number that stands i-th in xs, counted from 1; 0 for none
--   over xs old     == a lent buffer that held old, with xs written over its first part
--   All P xs        == P holds of every member of xs
use Rattle.std.specs.Prelude.{Bool, true, false, ◌||◌, List, [], ◌∷◌, ◌++◌, ℕ, zero, suc, length, get_or, drop}

abbrev pub each : {A B : Type 0} → (A → List B) → List A → List B
each f [] = []
each f (x ∷ xs) = f x ++ each f xs

abbrev pub those : {A : Type 0} → (A → Bool) → List A → List A
those t [] = []
those t (x ∷ xs) = elim (t x) [ true ↦ x ∷ those t xs | false ↦ those t xs ]

abbrev pub any : {A : Type 0} → (A → Bool) → List A → Bool
any t [] = false
any t (x ∷ xs) = t x || any t xs

abbrev pub up_from : ℕ → ℕ → List ℕ
up_from i zero = []
up_from i (suc n) = i ∷ up_from (suc i) n

abbrev pub insert : {A : Type 0} → (A → A → Bool) → A → List A → List A
insert lt x [] = x ∷ []
insert lt x (y ∷ ys) =
    elim (lt x y) [ true ↦ x ∷ (y ∷ ys) | false ↦ elim (lt y x) [ true ↦ y ∷ insert lt x ys | false ↦ y ∷ ys ] ]

abbrev pub in_order : {A : Type 0} → (A → A → Bool) → List A → List A
in_order lt [] = []
in_order lt (x ∷ xs) = insert lt x (in_order lt xs)

abbrev pub head_or : {A : Type 0} → A → List A → A
head_or d [] = d
head_or d (x ∷ xs) = x

abbrev pub tail_of : {A : Type 0} → List A → List A
tail_of [] = []
tail_of (x ∷ xs) = xs

abbrev pub last_or : {A : Type 0} → A → List A → A
last_or d [] = d
last_or d (x ∷ xs) = last_or x xs

abbrev pub entry : List ℕ → ℕ → ℕ
entry xs zero = 0
entry xs (suc i) = get_or xs i 0

abbrev pub over : {A : Type 0} → List A → List A → List A
over xs old = xs ++ drop (length xs) old

abbrev pub All : {A : Type 0} → (A → Type 0) → List A → Type 0
All P [] = Unit {0}
All P (x ∷ xs) = P x × All P xs
