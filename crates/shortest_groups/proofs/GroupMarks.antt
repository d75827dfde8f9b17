-- Groups of places as marks in one number: one mark more, and the places that are left.
--   bit-..   == a mark by itself: 0 in the group of no place; as the code reads it
--   mark-..  == the group g with the mark of place b, which it did not have: g + 2 ^ b
--   rest-..  == the places that are not in a group
-- A mark is found by halving, so each law is one induction, in which omega halves g + 2 ^ (b + 1).
use mathlib.Core.Path.{◌≡◌, refl, sym, ap, ◌∙◌}
use mathlib.Core.Bool.{Bool, true, false}
use mathlib.Core.Logic.{inl, inr}
use mathlib.Core.List.{List, [], ◌∷◌, ◌++◌, append-nil}
use Prim.Native.Nat.{ℕ, zero, suc, ◌+◌, ◌*◌, ◌/◌, ◌%◌, ◌^◌, ◌≤◌, ◌<◌}
use native.Mathlib.Nat.{pow-suc, mul_comm, div-div-eq-div-mul}
use native.Mathlib.Decide.{ℕ_discrete}
use native.Mathlib.Omega.{arith}
use lib.Bits.{bit_and, and_mask}
use lib.Count.{ones, ones_step}
use lib.Dec.{eqb}
use lib.ListN.{length, length-append}
use lib.Pow.{pow_mono}
use borrow.Author.Tests.{eqb-true, eq-eqb, ne_eqb}
use Rattle.words.specs.Lists.{those, up_from}
use Rattle.trays.specs.Limits.{max_shortest}
use Rattle.words.proofs.Tests.{tell}
use Rattle.words.proofs.Members.{In, Asc, those-yes, those_no, those_append, in_those, in_up_from, asc_up_from}
use Rattle.words.proofs.Picks.{those-same, those_all}
use Rattle.words.proofs.Runs.{up_from_more}
use Rattle.shortest.specs.Orders.{without}
use Rattle.shortest.proofs.Without.{without-yes, without_no}
use Rattle.shortest_groups.specs.Steps.Marks.{bit, rest_of}

half_add : (g b : ℕ) → (g + 2 ^ suc b) / 2 ≡ g / 2 + 2 ^ b
half_add g b = omega (arith, pow-suc 2 b)

low_add : (g b : ℕ) → (g + 2 ^ suc b) % 2 ≡ g % 2
low_add g b = omega (arith, pow-suc 2 b)

half_one : (g : ℕ) → g % 2 ≡ 0 → (g + 2 ^ 0) / 2 ≡ g / 2
half_one g e = omega arith

-- a mark
bit_none : (a : ℕ) → bit 0 a ≡ 0
bit_none zero = refl
bit_none (suc a) = bit_none a

bit_shift : (g a : ℕ) → bit g a ≡ g / 2 ^ a % 2
bit_shift g zero = omega arith
bit_shift g (suc a) =
    bit_shift (g / 2) a ∙ ap (λ (x : ℕ). x % 2) (div-div-eq-div-mul g 2 (2 ^ a) ∙ ap (λ (x : ℕ). g / x) (mul_comm 2 (2 ^ a) ∙ sym (pow-suc 2 a)))

-- as the code reads it
pub bit-and : (g a : ℕ) → bit_and (g / 2 ^ a) 1 ≡ bit g a
bit-and g a = and_mask (g / 2 ^ a) 1 ∙ sym (bit_shift g a)

-- one mark more
pub mark-same : (g b : ℕ) → bit g b ≡ 0 → bit (g + 2 ^ b) b ≡ 1
mark-same g zero e = omega arith
mark-same g (suc b) e = rw (half_add g b) (mark-same (g / 2) b e)

mark_other : (g a b : ℕ) → bit g b ≡ 0 → (a ≡ b → ⊥) → bit (g + 2 ^ b) a ≡ bit g a
mark_other g zero zero e n = absurd (n refl)
mark_other g zero (suc b) e n = low_add g b
mark_other g (suc a) zero e n = rw (half_one g e)
mark_other g (suc a) (suc b) e n = rw (half_add g b) (mark_other (g / 2) a b e (λ q. n (ap suc q)))

pub mark-ones : (g b : ℕ) → bit g b ≡ 0 → ones (g + 2 ^ b) ≡ suc (ones g)
mark-ones g zero e = omega (arith, ones_step (g + 2 ^ 0), ones_step g, ap ones (half_one g e))
mark-ones g (suc b) e =
    omega (arith, ones_step (g + 2 ^ suc b), ones_step g, ap ones (half_add g b), low_add g b, mark-ones (g / 2) b e)

pub mark-below : (k g b : ℕ) → g < 2 ^ k → b < k → bit g b ≡ 0 → g + 2 ^ b < 2 ^ k
mark-below zero g b l h e = absurd (omega arith)
mark-below (suc k) g zero l h e = omega (arith, pow-suc 2 k)
mark-below (suc k) g (suc b) l h e =
    omega (arith, pow-suc 2 k, pow-suc 2 b, mark-below k (g / 2) b (omega (arith, pow-suc 2 k)) (omega arith) e)

-- a test that fails at one member more of an ascending list
those-less :
    (t u : ℕ → Bool) (b : ℕ) → t b ≡ true → u b ≡ false → ((a : ℕ) → (a ≡ b → ⊥) → u a ≡ t a)
    → (xs : List ℕ) → Asc ◌<◌ xs → those u xs ≡ without b (those t xs)
those-less t u b y n s [] p = refl
those-less t u b y n s (x ∷ xs) p =
    elim (ℕ_discrete x b) [
      | yes e ↦
          rw (those_no u x xs (rw e n), those-yes t x xs (rw e y), without-yes b x (those t xs) (eq-eqb b x (sym e)))
          (those-same u t xs (λ a m. s a (λ q. let l = p.0 a m in omega arith)))
      | no ne ↦
          elim (tell (t x)) [
            | inl y' ↦
                rw (
                  those-yes u x xs (s x ne ∙ y'),
                  those-yes t x xs y',
                  without_no b x (those t xs) (ne_eqb b x (λ q. ne (sym q))),
                )
                (ap (λ l. x ∷ l) (those-less t u b y n s xs p.1))
            | inr n' ↦ rw (those_no u x xs (s x ne ∙ n'), those_no t x xs n') (those-less t u b y n s xs p.1)
          ]
    ]

-- the places that are left
pub mark_rest : (g b k : ℕ) → bit g b ≡ 0 → rest_of (g + 2 ^ b) k ≡ without b (rest_of g k)
mark_rest g b k e =
    those-less (λ a. eqb (bit g a) 0) (λ a. eqb (bit (g + 2 ^ b) a) 0) b (eq-eqb (bit g b) 0 e)
    (ne_eqb (bit (g + 2 ^ b) b) 0 (λ q. omega (arith, mark-same g b e))) (λ a n. ap (λ x. eqb x 0) (mark_other g a b e n)) (up_from 0 k)
    (asc_up_from 0 k)

pub rest_none : (k : ℕ) → rest_of 0 k ≡ up_from 0 k
rest_none k = those_all (λ a. eqb (bit 0 a) 0) (up_from 0 k) (λ a m. eq-eqb (bit 0 a) 0 (bit_none a))

pub in_rest : {a : ℕ} (g k : ℕ) → In a (rest_of g k) → (a < k) × (bit g a ≡ 0)
in_rest {a} g k m =
    let r = in_those (λ b. eqb (bit g b) 0) (up_from 0 k) m in
    let l = in_up_from 0 k r.0 in
    (omega arith, eqb-true (bit g a) 0 r.1)

pub rest_yes : (g k : ℕ) → bit g k ≡ 0 → rest_of g (suc k) ≡ rest_of g k ++ (k ∷ [])
rest_yes g k e =
    let t : ℕ → Bool = λ a. eqb (bit g a) 0 in
    let z : 0 + k ≡ k = omega arith in
    ap (those t) (up_from_more 0 k) ∙ those_append t (up_from 0 k) ((0 + k) ∷ []) ∙ rw (z, those-yes t k [] (eq-eqb (bit g k) 0 e))

pub rest_no : (g k : ℕ) → (bit g k ≡ 0 → ⊥) → rest_of g (suc k) ≡ rest_of g k
rest_no g k n =
    let t : ℕ → Bool = λ a. eqb (bit g a) 0 in
    let z : 0 + k ≡ k = omega arith in
    ap (those t) (up_from_more 0 k) ∙ those_append t (up_from 0 k) ((0 + k) ∷ []) ∙ rw (z, those_no t k [] (ne_eqb (bit g k) 0 n), append-nil)

pub rest_few : (g k : ℕ) → length (rest_of g k) ≤ k
rest_few g zero = omega arith
rest_few g (suc k) =
    let r = rest_few g k in
    elim (ℕ_discrete (bit g k) 0) [
      | yes e ↦ rw (rest_yes g k e, length-append) (omega arith)
      | no n ↦ rw (rest_no g k n) (omega arith)
    ]

-- the group of one place, as the code shifts it: at most ten places are marked
pub mark_alone : (a : ℕ) → a ≤ max_shortest → ((1 * 2 ^ a) % 2 ^ 64 ≡ 2 ^ a) × ((1 * 2 ^ a) % 2 ^ 64 ≤ 2 ^ max_shortest)
mark_alone a h = let m : 2 ^ a ≤ 2 ^ max_shortest = pow_mono h in (omega arith, omega arith)
