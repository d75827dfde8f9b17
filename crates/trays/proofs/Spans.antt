-- Where the slips of an accepted tray stand.
--   Spanned ss es     == the slips ss stand one behind the other at the ends es: each has a letter and is within the limit of a slip, all are
--                        within that of a tray
--   accepted_spanned  == those of an accepted tray do
--   span_place        == a letter's place is below the limit
--   span_one          == a place is that of one letter of one slip
--   letters-most      == ascending slips have together no more letters than a tray may have
-- Ends rise, so that each slip starts where the one before it ends, and later ones further on.
use mathlib.Core.Path.{◌≡◌, refl, ap}
use mathlib.Core.Logic.{inl, inr}
use mathlib.Core.List.Memᴰ
use mathlib.Core.List.{List, [], ◌∷◌}
use Prim.Native.Nat.{ℕ, zero, suc, ◌+◌, ◌≤◌, ◌<◌}
use native.Mathlib.Decide.{dec_lt}
use native.Mathlib.Omega.{arith}
use lib.Dec.{ltb}
use lib.ListN.{length, get_or, length-take, length-drop}
use borrow.Author.Tests.{ltb-false}
use Rattle.words.proofs.Tests.{tell}
use Rattle.words.proofs.Members.{In, Asc}
use Rattle.words.proofs.Sums.{sum}
use Rattle.trays.specs.Limits.{max_slip, max_letters}
use Rattle.trays.specs.Slips.{slip, slips_of, start_of, end_of}
use Rattle.trays.specs.Faults.{too_long, tray_fault}
use Rattle.trays.proofs.Accepted.{accepted_tells, end_at, span_rises, span_fits, span_slip}

pub record Spanned (ss : List (List ℕ)) (es : List ℕ) : Type 0 where
  pub long : (i : ℕ) → 1 ≤ i → i ≤ length es → start_of es i + length (slip ss i) ≡ end_of es i
  pub some : (i : ℕ) → 1 ≤ i → i ≤ length es → 1 ≤ length (slip ss i)
  pub short : (i : ℕ) → 1 ≤ i → i ≤ length es → length (slip ss i) ≤ max_slip
  pub apart : (i k : ℕ) → i < k → k ≤ length es → end_of es i ≤ start_of es k
  pub fits : (i : ℕ) → i ≤ length es → end_of es i ≤ max_letters

module _ (m : ℕ) where
  short_rest : (i here e : ℕ) (es : List ℕ) → 1 ≤ i → too_long m i here (e ∷ es) ≡ 0 → (e ≤ here + m) × (too_long m (suc i) e es ≡ 0)
  short_rest i here e es p h =
      elim (tell (ltb (here + m) e)) [
        | inl t ↦ absurd (omega (arith, rw (t, too_long) at h))
        | inr t ↦ (ltb-false (here + m) e t, rw (t, too_long) at h)
      ]

  short_at : (i here : ℕ) (es : List ℕ) → 1 ≤ i → too_long m i here es ≡ 0 → (k : ℕ) → k < length es → get_or es k 0 ≤ get_or (here ∷ es) k 0 + m
  short_at i here [] p h k l = absurd (omega arith)
  short_at i here (e ∷ es) p h zero l = (short_rest i here e es p h).0
  short_at i here (e ∷ es) p h (suc k) l = short_at (suc i) e es (omega arith) (short_rest i here e es p h).1 k (omega arith)

module _ (s es : List ℕ) (acc : (tray_fault s es).number ≡ 0) where
  long : (i : ℕ) → 1 ≤ i → i ≤ length es → start_of es i + length (slip (slips_of s es) i) ≡ end_of es i
  long i p l = rw (span_slip s es acc i p l, length-take, length-drop) (omega (arith, span_rises s es acc i p l, span_fits s es acc i p l))

  some : (i : ℕ) → 1 ≤ i → i ≤ length es → 1 ≤ length (slip (slips_of s es) i)
  some i p l = omega (arith, long i p l, span_rises s es acc i p l)

  short : (i : ℕ) → 1 ≤ i → i ≤ length es → length (slip (slips_of s es) i) ≤ max_slip
  short zero p l = absurd (omega arith)
  short (suc k) p l = omega (arith, long (suc k) p l, end_at es k, short_at max_slip 1 0 es (omega arith) (accepted_tells s es acc).short k l)

  apart : (i k : ℕ) → i < k → k ≤ length es → end_of es i ≤ start_of es k
  apart i zero h l = absurd (omega arith)
  apart i (suc k) h l =
      elim (dec_lt i k) [
        | yes q ↦ omega (arith, apart i k q (omega arith), span_rises s es acc k (omega arith) (omega arith))
        | no q ↦ let e : i ≡ k = omega arith in rw e (omega arith)
      ]

  fits : (i : ℕ) → i ≤ length es → end_of es i ≤ max_letters
  fits zero l = omega arith
  fits (suc k) l = omega (arith, span_fits s es acc (suc k) (omega arith) l, (accepted_tells s es acc).small)

  pub accepted_spanned : Spanned (slips_of s es) es
  accepted_spanned = record { long = long; some = some; short = short; apart = apart; fits = fits }

module _ {ss : List (List ℕ)} {es : List ℕ} (S : Spanned ss es) where
  pub span_place : (i e : ℕ) → 1 ≤ i → i ≤ length es → e < length (slip ss i) → start_of es i + e < max_letters
  span_place i e p l h = omega (arith, S.long i p l, S.fits i l)

  pub span_one :
      (i k c e : ℕ) → 1 ≤ i → i ≤ length es → 1 ≤ k → k ≤ length es → c < length (slip ss i) → e < length (slip ss k)
      → start_of es i + c ≡ start_of es k + e → (i ≡ k) × (c ≡ e)
  span_one i k c e p l q m h g x =
      let u = S.long i p l in
      let v = S.long k q m in
      elim (dec_lt i k) [
        | yes b ↦ absurd (omega (arith, S.apart i k b m))
        | no b ↦ elim (dec_lt k i) [
          | yes d ↦ absurd (omega (arith, S.apart k i d l))
          | no d ↦ let y : i ≡ k = omega arith in (y, omega (arith, ap (start_of es) y))
        ]
      ]

  letters-behind :
      (k : ℕ) (M : List ℕ) → k ≤ length es → ((i : ℕ) → In i M → (k < i) × (i ≤ length es)) → Asc ◌<◌ M
      → end_of es k + sum (λ i. length (slip ss i)) M ≤ max_letters
  letters-behind k [] b h a = omega (arith, S.fits k b)
  letters-behind k (i ∷ M) b h a =
      let (p, l) = h i (Memᴰ.head refl) in
      omega (
        arith,
        S.long i (omega arith) l,
        S.apart k i p l,
        letters-behind i M l (λ j m. (a.0 j m, (h j (Memᴰ.tail m)).1)) a.1,
      )

  pub letters-most : (M : List ℕ) → ((i : ℕ) → In i M → (1 ≤ i) × (i ≤ length es)) → Asc ◌<◌ M → sum (λ i. length (slip ss i)) M ≤ max_letters
  letters-most M h a = omega (arith, letters-behind 0 M (omega arith) h a)
