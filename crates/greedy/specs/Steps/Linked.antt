-- Joins that make chains, and tables that tell their ends.
--   Chained js                == the slips joined have numbers from 1, and the joins are apart from each other
--   Threads js lasts firsts  == lasts i is the last slip of the chain that i begins, firsts e the first of the chain that e ends
--   put_at f at v             == the table f with v at the place at
use Rattle.std.specs.Prelude.{◌≡◌, cond, List, ℕ, ◌≤◌, eqb}
use Rattle.words.specs.Steps.Members.{In, Asc}
use Rattle.greedy.specs.Joins.{Join, right_of, left_of, last_of}

abbrev pub Apart : Join → Join → Type 0
Apart a b = (a.left ≡ b.left → ⊥) × (a.right ≡ b.right → ⊥)

pub record Chained (js : List Join) : Type 0 where
  pub real : (j : Join) → In j js → (1 ≤ j.left) × (1 ≤ j.right)
  pub apart : Asc Apart js

pub record Threads (js : List Join) (lasts firsts : ℕ → ℕ) : Type 0 where
  pub last_is : (i : ℕ) → left_of i js ≡ 0 → last_of i js ≡ lasts i
  pub back : (i : ℕ) → left_of i js ≡ 0 → firsts (lasts i) ≡ i
  pub first-is : (e : ℕ) → right_of e js ≡ 0 → (left_of (firsts e) js ≡ 0) × (lasts (firsts e) ≡ e)

abbrev pub put_at : (ℕ → ℕ) → ℕ → ℕ → ℕ → ℕ
put_at f at v i = cond (eqb i at) v (f i)
