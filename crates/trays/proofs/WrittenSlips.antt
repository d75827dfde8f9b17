-- Slips written as a tray.
--   length-ends        == there are as many ends as slips
--   letters_append, ends_append == of two lists of slips, one behind the other; letters_snoc, ends_snoc == of one slip more
--   slips_written      == a tray written of slips has these slips; slips_behind == and what stands behind them goes on from their last end
--   tray_refused, tray_wrote == the two ways to keep the promise of a call that writes a tray
-- and what a caller has of such a call, where f turns it back, or the slips xs are written:
--   refused_as         == the answer names f
--   letters-first, ends-first, sides_first == the lent buffers begin with the letters and the ends of xs, and with their sides cs
--   letters_count, ends_count, sides_count == the answer has their counts; letters_within, .. == which the buffers have
use mathlib.Core.Path.{◌≡◌, refl, sym, ◌∙◌, ap}
use mathlib.Core.List.{List, [], ◌∷◌, ◌++◌, append-nil, append_assoc}
use Prim.Native.Nat.{ℕ, zero, suc, ◌+◌, ◌≤◌}
use native.Mathlib.Nat.{add-sub_cancel_left}
use native.Mathlib.Omega.{arith}
use lib.ListN.{length, take, length-append, length-take}
use lib.Seq.{take-append_seam, drop-append_seam, take_at}
use Rattle.words.specs.Lists.{last_or}
use Rattle.words.proofs.Members.{each_append}
use Rattle.trays.specs.declared.Refusal.{Refusal}
use Rattle.trays.specs.declared.Written.{Written}
use Rattle.trays.specs.Slips.{slips_from, slips_of}
use Rattle.trays.specs.Faults.{refusal, accepted}
use Rattle.trays.specs.Written.{letters_of, ends_from, ends_of, wrote, written_by, TrayWritten}
use Rattle.trays.proofs.Rows.{written_all, written_none}

pub length-ends : (here : ℕ) (xs : List (List ℕ)) → length (ends_from here xs) ≡ length xs
length-ends here [] = refl
length-ends here (x ∷ xs) = ap suc (length-ends (here + length x) xs)

pub letters_append : (xs ys : List (List ℕ)) → letters_of (xs ++ ys) ≡ letters_of xs ++ letters_of ys
letters_append xs ys = each_append (λ x. x) xs ys

pub ends_append : (here : ℕ) (xs ys : List (List ℕ)) → ends_from here (xs ++ ys) ≡ ends_from here xs ++ ends_from (here + length (letters_of xs)) ys
ends_append here [] ys = let e : here + 0 ≡ here = omega arith in rw e
ends_append here (x ∷ xs) ys =
    let e : here + (length x + length (letters_of xs)) ≡ here + length x + length (letters_of xs) = omega arith in
    rw (length-append, e) (ap (λ r. (here + length x) ∷ r) (ends_append (here + length x) xs ys))

-- one slip more
pub letters_snoc : (xs : List (List ℕ)) (x : List ℕ) → letters_of (xs ++ (x ∷ [])) ≡ letters_of xs ++ x
letters_snoc xs x = rw (letters_append xs (x ∷ []), append-nil)

pub ends_snoc : (here : ℕ) (xs : List (List ℕ)) (x : List ℕ)
    → ends_from here (xs ++ (x ∷ [])) ≡ ends_from here xs ++ ((here + length (letters_of xs) + length x) ∷ [])
ends_snoc here xs x = ends_append here xs (x ∷ [])

pub slips_behind :
    (here : ℕ) (xs : List (List ℕ)) (t es : List ℕ)
    → slips_from here (letters_of xs ++ t) (ends_from here xs ++ es) ≡ xs ++ slips_from (last_or here (ends_from here xs)) t es
slips_behind here [] t es = refl
slips_behind here (x ∷ xs) t es =
    rw (append_assoc, add-sub_cancel_left here (length x), take-append_seam, drop-append_seam)
    (ap (λ r. x ∷ r) (slips_behind (here + length x) xs t es))

pub slips_written : (xs : List (List ℕ)) → slips_of (letters_of xs) (ends_of xs) ≡ xs
slips_written xs = simp append-nil at (slips_behind 0 xs [] [])

module _ (f : Refusal) (xs : List (List ℕ)) (cs : List ℕ) where
  wrote_by : f.number ≡ 0 → written_by f xs ≡ wrote xs
  wrote_by z = rw (z, written_by)

  refused_by_lem : (f.number ≡ 0 → ⊥) → written_by f xs ≡ record { number = f.number; detail = f.detail; letters = 0; slips = 0 }
  refused_by_lem z = go f.number refl
    where
      go : (n : ℕ) → f.number ≡ n → written_by f xs ≡ record { number = f.number; detail = f.detail; letters = 0; slips = 0 }
      go zero e = absurd (z e)
      go (suc n) e = rw (e, written_by)

  number_by : (written_by f xs).number ≡ f.number
  number_by = go f.number refl
    where
      go : (n : ℕ) → f.number ≡ n → (written_by f xs).number ≡ f.number
      go zero e = rw (e, written_by)
      go (suc n) e = rw (e, written_by)

  pub tray_refused :
      (f.number ≡ 0 → ⊥) → (a b d : List ℕ)
      → TrayWritten f xs cs a a b b d d (record { number = f.number; detail = f.detail; letters = 0; slips = 0 })
  tray_refused z a b d =
      let h : 1 ≤ f.number = omega arith in
      record {
        answer-is = sym (refused_by_lem z);
        letters_are = sym (written_none f (letters_of xs) a h);
        ends_are = sym (written_none f (ends_of xs) b h);
        sides_are = sym (written_none f cs d h);
      }

  module _ (a a' b b' d d' : List ℕ) (r : Written) where
    pub tray_wrote : f.number ≡ 0 → TrayWritten accepted xs cs a a' b b' d d' r → TrayWritten f xs cs a a' b b' d d' r
    tray_wrote z t = record {
      answer-is = t.answer-is ∙ sym (wrote_by z);
      letters_are = t.letters_are ∙ sym (written_all f (letters_of xs) a z);
      ends_are = t.ends_are ∙ sym (written_all f (ends_of xs) b z);
      sides_are = t.sides_are ∙ sym (written_all f cs d z);
    }

    module _ (t : TrayWritten f xs cs a a' b b' d d' r) where
      number_is : r.number ≡ f.number
      number_is = ap (λ (c : Written). c.number) t.answer-is ∙ number_by

      pub refused_as : (r.number ≡ 0 → ⊥) → refusal r.number r.detail ≡ f
      refused_as z =
          let n : f.number ≡ 0 → ⊥ = λ e. z (number_is ∙ e) in
          ap (λ (c : Written). refusal c.number c.detail) (t.answer-is ∙ refused_by_lem n)

      module _ (z : r.number ≡ 0) where
        pub silent : f.number ≡ 0
        silent = sym number_is ∙ z

        answer : r ≡ wrote xs
        answer = t.answer-is ∙ wrote_by silent

        pub letters-first : take r.letters a' ≡ letters_of xs
        letters-first = rw (answer, t.letters_are, written_all f (letters_of xs) a silent) (take-append_seam (letters_of xs) _)

        pub ends-first : take r.slips b' ≡ ends_of xs
        ends-first = rw (answer, t.ends_are, written_all f (ends_of xs) b silent) (take_at (ends_of xs) _ (length xs) (length-ends 0 xs))

        pub letters_count : r.letters ≡ length (take r.letters a')
        letters_count = rw letters-first (ap (λ (c : Written). c.letters) answer)

        pub ends_count : r.slips ≡ length (take r.slips b')
        ends_count = rw ends-first (ap (λ (c : Written). c.slips) answer ∙ sym (length-ends 0 xs))

        pub letters_within : r.letters ≤ length a'
        letters_within = omega (arith, letters_count, length-take r.letters a')

        pub ends_within : r.slips ≤ length b'
        ends_within = omega (arith, ends_count, length-take r.slips b')

        module _ (e : length cs ≡ length xs) where
          pub sides_first : take r.slips d' ≡ cs
          sides_first = rw (answer, t.sides_are, written_all f cs d silent) (take_at cs _ (length xs) e)

          pub sides_count : r.slips ≡ length (take r.slips d')
          sides_count = rw sides_first (ap (λ (c : Written). c.slips) answer ∙ sym e)

          pub sides_within : r.slips ≤ length d'
          sides_within = omega (arith, sides_count, length-take r.slips d')
