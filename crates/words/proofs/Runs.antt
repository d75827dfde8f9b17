-- Runs of numbers: `up_from i n`.
--   length-up_from == a run has as many numbers as it says
--   up_from_more   == one number more
--   up_from_append == a run, and another that goes on where it ends
--   up_from_at     == number k of a run
--   map_places    == a list is its places, mapped; each_places == lists by place are lists by member
--   sum_run       == a sum over ascending numbers of a run is at most that over the run
use mathlib.Core.Path.{◌≡◌, refl, sym, ◌∙◌, ap, ap₂}
use mathlib.Core.List.Memᴰ
use mathlib.Core.List.{List, [], ◌∷◌, ◌++◌, map}
use Prim.Native.Nat.{ℕ, zero, suc, ◌+◌, ◌≤◌, ◌<◌}
use native.Mathlib.Nat.{add-zero, zero-add}
use native.Mathlib.Decide.{ℕ_discrete}
use native.Mathlib.Omega.{arith}
use lib.ListN.{length, get_or}
use Rattle.words.specs.Lists.{each, up_from}
use Rattle.words.proofs.Members.{In, Asc, by_in}
use Rattle.words.proofs.Sums.{sum}

pub length-up_from : (i n : ℕ) → length (up_from i n) ≡ n
length-up_from i zero = refl
length-up_from i (suc n) = ap suc (length-up_from (suc i) n)

pub up_from_more : (i n : ℕ) → up_from i (suc n) ≡ up_from i n ++ ((i + n) ∷ [])
up_from_more i zero = let e : i + 0 ≡ i = omega arith in rw e
up_from_more i (suc n) = let e : suc i + n ≡ i + suc n = omega arith in ap (λ l. i ∷ l) (up_from_more (suc i) n ∙ rw e)

pub up_from_append : (i n k : ℕ) → up_from i n ++ up_from (i + n) k ≡ up_from i (n + k)
up_from_append i zero k = rw (add-zero, zero-add)
up_from_append i (suc n) k =
    let e : i + suc n ≡ suc i + n = omega arith in
    let d : suc n + k ≡ suc (n + k) = omega arith in
    rw (e, d) (ap (λ l. i ∷ l) (up_from_append (suc i) n k))

pub up_from_at : (i n k : ℕ) → k < n → get_or (up_from i n) k 0 ≡ i + k
up_from_at i zero k h = absurd (omega arith)
up_from_at i (suc n) zero h = sym (add-zero i)
up_from_at i (suc n) (suc k) h = up_from_at (suc i) n k (omega arith) ∙ omega arith

pub map_places :
    {A : Type 0} (d : A) (f : ℕ → A) (k : ℕ) (xs : List A) → ((i : ℕ) → i < length xs → f (k + i) ≡ get_or xs i d) → map f (up_from k (length xs)) ≡ xs
map_places d f k [] h = refl
map_places d f k (x ∷ xs) h =
    ap₂ ◌∷◌ (ap f (sym (add-zero k)) ∙ h 0 (omega arith)) (map_places d f (suc k) xs (λ i l. ap f (omega arith) ∙ h (suc i) (omega arith)))

pub each_places : {A B : Type 0} (d : A) (f : ℕ → List B) (g : A → List B) (k : ℕ) (xs : List A)
    → ((i : ℕ) → i < length xs → f (k + i) ≡ g (get_or xs i d)) → each f (up_from k (length xs)) ≡ each g xs
each_places d f g k [] h = refl
each_places d f g k (x ∷ xs) h =
    ap₂ ◌++◌ (ap f (sym (add-zero k)) ∙ h 0 (omega arith)) (each_places d f g (suc k) xs (λ i l. ap f (omega arith) ∙ h (suc i) (omega arith)))

-- the least number of the run is the first of M, or M lies above it
pub sum_run : (f : ℕ → ℕ) (k n : ℕ) (M : List ℕ) → Asc ◌<◌ M → ((i : ℕ) → In i M → (k ≤ i) × (i < k + n)) → sum f M ≤ sum f (up_from k n)
sum_run f k n [] a h = omega arith
sum_run f k zero (i ∷ M) a h = absurd (omega (arith, h i (Memᴰ.head refl)))
sum_run f k (suc n) (i ∷ M) a h =
    let above : (j : ℕ) → In j M → (i < j) × (j < k + suc n) = λ j m. (a.0 j m, (h j (Memᴰ.tail m)).1) in
    let here = h i (Memᴰ.head refl) in
    elim (ℕ_discrete i k) [
      | yes e ↦ omega (arith, ap f e, sum_run f (suc k) n M a.1 (λ j m. omega (arith, above j m)))
      | no e ↦ omega (arith, sum_run f (suc k) n (i ∷ M) a (λ j m. by_in m (λ q. omega arith) (λ q. omega (arith, above j q))))
    ]
