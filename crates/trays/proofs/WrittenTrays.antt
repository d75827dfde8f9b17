-- A tray and its slips, written: an accepted tray is its slips, written, and slips that are good each by itself are a tray but for its size.
--   written_slips    == the slips of an accepted tray, written, are that tray
--   slips_append     == of two trays, one behind the other, the slips are those of the first and then those of the second
--   Good x           == what rows 2, 3 and 6 ask of one slip; slips_good == the slips of an accepted tray are so
--   written-rows     == where slips are good, rows 1 and 4 alone can turn back the tray written of them
--   written-accepted == within both limits the tray is accepted
use mathlib.Core.Path.{◌≡◌, refl, ap, ◌∙◌}
use mathlib.Core.List.{List, [], ◌∷◌, ◌++◌, map}
use Prim.Native.Nat.{ℕ, suc, ◌+◌, ◌-◌, ◌≤◌}
use native.Mathlib.Omega.{arith}
use lib.ListN.{length, take, drop, length-append, length-drop, take-append-drop}
use lib.Seq.{length-take-le}
use borrow.Author.Tests.{lt-leb, le-ltb, eq-eqb}
use Rattle.words.specs.Lists.{last_or}
use Rattle.words.proofs.Picks.{in_get_or}
use Rattle.words.proofs.Sums.{All, all_in}
use Rattle.trays.specs.Limits.{max_slips, max_slip, max_letters}
use Rattle.trays.specs.Slips.{slips_from, slips_of, slip}
use Rattle.trays.specs.Faults.{not_above, too_long, bad_slip, first_row, tray_fault}
use Rattle.trays.specs.Written.{letters_of, ends_from, ends_of, size_rows}
use Rattle.trays.proofs.Accepted.{Signs, accepted_tells, accepted_signs, slips_count}
use Rattle.trays.proofs.Rising.{above_rest, last_above}
use Rattle.trays.proofs.Spans.{accepted_spanned}
use Rattle.trays.proofs.WrittenSlips.{length-ends, slips_behind, slips_written}

from_slips :
    (i here : ℕ) (s es : List ℕ) → 1 ≤ i → not_above i here es ≡ 0 → last_or here es ≡ here + length s
    → (letters_of (slips_from here s es) ≡ s) × (ends_from here (slips_from here s es) ≡ es)
from_slips i here [] [] p h r = (refl, refl)
from_slips i here (b ∷ s) [] p h r = absurd (omega arith)
from_slips i here s (e ∷ es) p h r =
    let (u, v) = above_rest i here e es h p in
    let n = e - here in
    let fits : n ≤ length s = omega (arith, last_above (suc i) e es (omega arith) v) in
    let (l, k) = from_slips (suc i) e (drop n s) es (omega arith) v (omega (arith, length-drop n s)) in
    let end : here + length (take n s) ≡ e = omega (arith, length-take-le n s fits) in
    (rw l (take-append-drop n s), rw (end, k))

pub written_slips : (s es : List ℕ) → (tray_fault s es).number ≡ 0 → (letters_of (slips_of s es) ≡ s) × (ends_of (slips_of s es) ≡ es)
written_slips s es acc = let a = accepted_tells s es acc in from_slips 1 0 s es (omega arith) a.rise (omega (arith, a.reach))

-- ends and start moved by the same amount cut the same slips
slips_shift : (a here : ℕ) (s es : List ℕ) → slips_from (a + here) s (map (λ e. a + e) es) ≡ slips_from here s es
slips_shift a here s [] = refl
slips_shift a here s (e ∷ es) = let d : (a + e) - (a + here) ≡ e - here = omega arith in rw (d, slips_shift a e (drop (e - here) s) es)

pub slips_append :
    (s es t fs : List ℕ) → not_above 1 0 es ≡ 0 → last_or 0 es ≡ length s
    → slips_of (s ++ t) (es ++ map (λ e. length s + e) fs) ≡ slips_of s es ++ slips_of t fs
slips_append s es t fs h r =
    let n = length s in
    let (l, k) = from_slips 1 0 s es (omega arith) h (omega arith) in
    let start : n ≡ n + 0 = omega arith in
    (rw (l, k, r) at (slips_behind 0 (slips_of s es) t (map (λ e. n + e) fs)))
    ∙ ap (λ xs. slips_of s es ++ xs) (ap (λ m. slips_from m t (map (λ e. n + e) fs)) start ∙ slips_shift n 0 t fs)

pub record Good (x : List ℕ) : Type 0 where
  pub some : 1 ≤ length x
  pub short : length x ≤ max_slip
  pub signs : Signs x

pub slips_good : (s es : List ℕ) → (tray_fault s es).number ≡ 0 → All Good (slips_of s es)
slips_good s es acc =
    all_in Good (slips_of s es) (λ x m. let (i, l, e) = in_get_or [] m in rw (← e) (good (suc i) (omega arith) (omega (arith, slips_count s es))))
  where
    good : (i : ℕ) → 1 ≤ i → i ≤ length es → Good (slip (slips_of s es) i)
    good i p l =
        let S = accepted_spanned s es acc in
        record { some = S.some i p l; short = S.short i p l; signs = accepted_signs s es acc i }

-- rows 2, 3 and 6 are silent, and so is row 5
rises : (i here : ℕ) (xs : List (List ℕ)) → All Good xs → not_above i here (ends_from here xs) ≡ 0
rises i here [] g = refl
rises i here (x ∷ xs) g =
    rw (lt-leb (here + length x) here (omega (arith, g.0.some)), not_above) (rises (suc i) (here + length x) xs g.1)

none_long : (i here : ℕ) (xs : List (List ℕ)) → All Good xs → too_long max_slip i here (ends_from here xs) ≡ 0
none_long i here [] g = refl
none_long i here (x ∷ xs) g =
    rw (le-ltb (here + max_slip) (here + length x) (omega (arith, g.0.short)), too_long) (none_long (suc i) (here + length x) xs g.1)

none_bad : (i : ℕ) (xs : List (List ℕ)) → All Good xs → bad_slip i xs ≡ 0
none_bad i [] g = refl
none_bad i (x ∷ xs) g = rw (g.0.signs, bad_slip) (none_bad (suc i) xs g.1)

ends_reach : (here : ℕ) (xs : List (List ℕ)) → last_or here (ends_from here xs) ≡ here + length (letters_of xs)
ends_reach here [] = omega arith
ends_reach here (x ∷ xs) = omega (arith, ends_reach (here + length x) xs, length-append x (letters_of xs))

pub written-rows : (xs : List (List ℕ)) → All Good xs → tray_fault (letters_of xs) (ends_of xs) ≡ first_row (size_rows xs)
unfolding tray_fault
written-rows xs g =
    rw (
      length-ends 0 xs,
      rises 1 0 xs g,
      none_long 1 0 xs g,
      eq-eqb (last_or 0 (ends_of xs)) (length (letters_of xs)) (omega (arith, ends_reach 0 xs)),
      slips_written xs,
      none_bad 1 xs g,
    )

pub written-accepted :
    (xs : List (List ℕ)) → All Good xs → length xs ≤ max_slips → length (letters_of xs) ≤ max_letters
    → (tray_fault (letters_of xs) (ends_of xs)).number ≡ 0
written-accepted xs g a b = rw (written-rows xs g, le-ltb max_slips (length xs) a, le-ltb max_letters (length (letters_of xs)) b)
