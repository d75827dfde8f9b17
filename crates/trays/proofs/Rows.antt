-- Rows of the table: the first one that holds.
--   or_zero, or_some   == the two cases of or_else; both_silent, if neither speaks
--   speaking           == a row that is not silent has a number above 0, and its detail
--   rows_append        == rows are taken top to bottom, one part after another
--   rows_when          == rows may be exchanged for others that say the same where those above them are silent
--   written_all, written_none == a lent buffer is written over, or is as it was
use mathlib.Core.Path.{◌≡◌, refl, sym, ap}
use mathlib.Core.List.{List, [], ◌∷◌, ◌++◌}
use Prim.Native.Nat.{ℕ, zero, suc, ◌≤◌}
use borrow.Author.Tests.{le-leb}
use native.Mathlib.Omega.{arith}
use Rattle.words.specs.Lists.{over}
use Rattle.trays.specs.declared.Refusal.{Refusal}
use Rattle.trays.specs.Faults.{refusal, or_else, first_row, slip_at, written}

pub or_zero : (f g : Refusal) → f.number ≡ 0 → or_else f g ≡ g
or_zero f g e = rw (e, or_else)

pub or_some : (f g : Refusal) → 1 ≤ f.number → or_else f g ≡ f
or_some f g h = go f.number refl
  where
    go : (n : ℕ) → f.number ≡ n → or_else f g ≡ f
    go zero e = absurd (omega arith)
    go (suc n) e = ap {B = Refusal} (λ (m : ℕ). elim m [ zero ↦ g | suc k ↦ f ]) e

pub by_number : {P : Type 0} (f : Refusal) → (f.number ≡ 0 → P) → (1 ≤ f.number → P) → P
by_number {P} f z s = go f.number refl
  where
    go : (n : ℕ) → f.number ≡ n → P
    go zero e = z e
    go (suc n) e = s (omega arith)

pub speaking : (f : Refusal) → (f.number ≡ 0 → ⊥) → (n : ℕ) × (f ≡ refusal (suc n) f.detail)
speaking f z = go f.number refl
  where
    go : (m : ℕ) → f.number ≡ m → (n : ℕ) × (f ≡ refusal (suc n) f.detail)
    go zero e = absurd (z e)
    go (suc n) e = (n, ap (λ (m : ℕ). refusal m f.detail) e)

pub both_silent : (f g : Refusal) → (or_else f g).number ≡ 0 → (f.number ≡ 0) × (g.number ≡ 0)
both_silent f g h =
    by_number f
    (λ z. (z, rw (or_zero f g z) at h))
    (λ p. absurd (no f.number p (rw (or_some f g p) at h)))
  where
    no : (n : ℕ) → 1 ≤ n → n ≡ 0 → ⊥
    no n a b = omega arith

pub or_assoc : (f g h : Refusal) → or_else (or_else f g) h ≡ or_else f (or_else g h)
or_assoc f g h = by_number f (λ e. rw (or_zero f g e, or_zero f (or_else g h) e)) (λ e. rw (or_some f g e, or_some f h e, or_some f (or_else g h) e))

pub rows_append : (xs ys : List Refusal) → first_row (xs ++ ys) ≡ or_else (first_row xs) (first_row ys)
rows_append [] ys = refl
rows_append (x ∷ xs) ys = rw (rows_append xs ys) (sym (or_assoc x (first_row xs) (first_row ys)))

pub rows_when : (xs ys zs : List Refusal) → ((first_row xs).number ≡ 0 → first_row ys ≡ first_row zs) → first_row (xs ++ ys) ≡ first_row (xs ++ zs)
rows_when xs ys zs h =
    rw (rows_append xs ys, rows_append xs zs)
    (by_number (first_row xs) (λ e. rw (h e)) (λ p. rw (or_some (first_row xs) (first_row ys) p, or_some (first_row xs) (first_row zs) p)))

pub written_all : {A : Type 0} (f : Refusal) (xs old : List A) → f.number ≡ 0 → written f xs old ≡ over xs old
written_all {A} f xs old z = ap {B = List A} (λ (m : ℕ). elim m [ zero ↦ over xs old | suc n ↦ old ]) z

pub written_none : {A : Type 0} (f : Refusal) (xs old : List A) → 1 ≤ f.number → written f xs old ≡ old
written_none {A} f xs old h = go f.number refl
  where
    go : (n : ℕ) → f.number ≡ n → written f xs old ≡ old
    go zero e = absurd (omega arith)
    go (suc n) e = ap {B = List A} (λ (m : ℕ). elim m [ zero ↦ over xs old | suc k ↦ old ]) e

-- rows 2 and 3 are silent: the ends rise, and no slip is too long
pub slip-zero : (n d : ℕ) → (slip_at (suc n) d).number ≡ 0 → d ≡ 0
slip-zero n zero h = refl
slip-zero n (suc d) h = absurd (no (rw (le-leb 1 (suc d) (omega arith)) at h))
  where
    no : suc n ≡ 0 → ⊥
    no q = omega arith
