-- Chosen slips of an accepted tray, written as a tray of their own into two arrays that take any tray.
--   chosen_real, chosen_few == their numbers, as laws of composing ask for them
--   write_can        == they can be written there
--   text-.., ends-.. == the parts of the arrays that are that tray
--   cut_tray         == it is accepted; slips_cut == and its slips are the chosen ones
use mathlib.Core.Path.{◌≡◌, sym, ◌∙◌, ap}
use mathlib.Core.List.{List}
use Prim.Native.Nat.{ℕ, ◌≤◌}
use native.Mathlib.Omega.{arith}
use lib.ListN.{length, take, replicate, length-map}
use lib.Seq.{take-append_seam}
use Rattle.words.specs.Lists.{over}
use Rattle.words.proofs.Buffers.{length_over}
use Rattle.words.proofs.Sums.{all_in}
use Rattle.trays.specs.Limits.{max_slips, max_letters}
use Rattle.trays.specs.Slips.{slips_of, slip, only}
use Rattle.trays.specs.Faults.{tray_fault}
use Rattle.trays.specs.Written.{letters_of, ends_of}
use Rattle.trays.proofs.Accepted.{accepted_tells, slips_count}
use Rattle.trays.proofs.WrittenSlips.{slips_written, length-ends}
use Rattle.trays.proofs.WrittenTrays.{written_slips}
use Rattle.greedy.proofs.Chosen.{Real, only-accepted, only_few, only-letters}
use Rattle.tray_cut.specs.Choosing.{CanCut, CanWrite, SlipsWritten}

-- what was written over the first part of a buffer is that part
take-over : (xs old : List ℕ) (n : ℕ) → n ≡ length xs → take n (over xs old) ≡ xs
take-over xs old n e = rw e (take-append_seam xs _)

module _ (s es M : List ℕ) (h : CanCut s es M) where
  abbrev os : List (List ℕ)
  os = only (slips_of s es) M

  pub chosen_real : Real (length (slips_of s es)) M
  chosen_real = record { rise = h.rise; real = λ i m. rw (slips_count s es) (h.real i m) }

  pub chosen_few : length M ≤ max_slips
  chosen_few =
      omega (arith, only_few (slips_of s es) chosen_real, length-map M (slip (slips_of s es)), slips_count s es, (accepted_tells s es h.tray).few)

  few_letters : length (letters_of os) ≤ max_letters
  few_letters =
      omega (arith, only-letters (slips_of s es) chosen_real, ap length (written_slips s es h.tray).0, (accepted_tells s es h.tray).small)

  pub write_can : CanWrite s es M 0 (length {A = ℕ} (replicate max_letters 0)) (length {A = ℕ} (replicate max_slips 0))
  write_can =
      record {
        tray = h.tray;
        real = all_in (λ i. (1 ≤ i) × (i ≤ length es)) M h.real;
        few = chosen_few;
        room = few_letters;
        small = omega (arith, few_letters);
      }

  module _ (a b : List ℕ) (n : ℕ) (W : SlipsWritten s es M 0 (replicate max_letters 0) a (replicate max_slips 0) b n) where
    ends_count : length M ≡ length (ends_of os)
    ends_count = sym (length-ends 0 os ∙ length-map M (slip (slips_of s es)))

    pub text_fits : n ≤ length a
    text_fits =
        omega (arith, W.count_is, few_letters, ap length W.letters_are, length_over (letters_of os) (replicate max_letters 0) few_letters)

    pub ends_fit : length M ≤ length b
    ends_fit =
        let few : length (ends_of os) ≤ max_slips = omega (arith, ends_count, chosen_few) in
        omega (arith, few, ends_count, ap length W.ends_are, length_over (ends_of os) (replicate max_slips 0) few)

    letters-cut : take n a ≡ letters_of os
    letters-cut = ap (take n) W.letters_are ∙ take-over (letters_of os) (replicate max_letters 0) n W.count_is

    ends-cut : take (length M) b ≡ ends_of os
    ends-cut = ap (take (length M)) W.ends_are ∙ take-over (ends_of os) (replicate max_slips 0) (length M) ends_count

    pub text_counted : n ≡ length (take n a)
    text_counted = W.count_is ∙ ap length (sym letters-cut)

    pub ends-counted : length M ≡ length (take (length M) b)
    ends-counted = ends_count ∙ ap length (sym ends-cut)

    pub cut_tray : (tray_fault (take n a) (take (length M) b)).number ≡ 0
    cut_tray = rw (letters-cut, ends-cut) (only-accepted s es M h.tray chosen_real)

    pub slips_cut : slips_of (take n a) (take (length M) b) ≡ only (slips_of s es) M
    slips_cut = rw (letters-cut, ends-cut) (slips_written os)
