-- Membership and order in lists.
--   In a xs     == a is a member of xs
--   Asc R xs    == each member of xs stands in R to every later one
--   Less lt     == the test lt as a relation
--   Distinct xs == no number stands twice in xs
use Rattle.std.specs.Prelude.{◌≡◌, Bool, true, ℕ}
use mathlib.Core.List.{List, [], ◌∷◌, Memᴰ}

abbrev pub In : {A : Type 0} → A → List A → Type 0
In a xs = Memᴰ a xs

abbrev pub Asc : {A : Type 0} → (A → A → Type 0) → List A → Type 0
Asc R [] = Unit {0}
Asc R (x ∷ xs) = ((y : _) → In y xs → R x y) × Asc R xs

abbrev pub Less : {A : Type 0} → (A → A → Bool) → A → A → Type 0
Less lt a b = lt a b ≡ true

abbrev pub Distinct : List ℕ → Type 0
Distinct [] = Unit {0}
Distinct (x ∷ xs) = (In x xs → ⊥) × Distinct xs
