-- Reading a file, row by row, and what read_tray answers.
--   place-..   == the ways through check_file: rows 15, 16, and those of the lines
--   read-..    == the ways through read_tray
use mathlib.Core.Path.{◌≡◌, refl, sym, ◌∙◌, ap}
use mathlib.Core.List.{List}
use Prim.Native.Nat.{ℕ, suc, ◌≤◌, ◌<◌}
use borrow.Author.Tests.{lt-ltb, le-ltb}
use native.Mathlib.Decide.{dec_lt}
use native.Mathlib.Omega.{arith}
use lib.ListN.{length}
use Rattle.trays.specs.declared.Refusal.{Refusal}
use Rattle.trays.specs.Limits.{max_file, ends_need}
use Rattle.trays.specs.declared.Written.{Written}
use Rattle.trays.specs.Faults.{refusal, accepted}
use Rattle.std.specs.Prelude.{Err}
use Rattle.trays.proofs.Told.{told_speaks}
use Rattle.trays.proofs.WrittenSlips.{tray_refused}
use Rattle.trays.specs.Told.{told, written_from}
use Rattle.trays.specs.declared.fault.Fault.{Fault}
use Rattle.file_rule.specs.Lines.{lines_of}
use Rattle.file_rule.specs.Faults.{lines_fault, read_fault}
use Rattle.file_rule.specs.Answers.{slips_in, sides_in, ReadSays}
use Rattle.file_read.specs.Steps.Copying.{Lent, Copied}
use Rattle.file_rule.proofs.LineFaults.{or_last, lines-accepted}

module _ (s : List ℕ) (a b d : ℕ) where
  pub place-letters : a < max_file → refusal 15 0 ≡ read_fault s a b d
  unfolding read_fault
  place-letters h = rw (lt-ltb a max_file h)

  module _ (h : max_file ≤ a) where
    pub place-ends : b < ends_need → refusal 15 0 ≡ read_fault s a b d
    unfolding read_fault
    place-ends l = rw (le-ltb a max_file h, lt-ltb b ends_need l)

    module _ (l : ends_need ≤ b) where
      pub place_sides : d < ends_need → refusal 15 0 ≡ read_fault s a b d
      unfolding read_fault
      place_sides k = rw (le-ltb a max_file h, le-ltb b ends_need l, lt-ltb d ends_need k)

      module _ (k : ends_need ≤ d) where
        pub place_long : max_file < length s → refusal 16 0 ≡ read_fault s a b d
        unfolding read_fault
        place_long m = rw (le-ltb a max_file h, le-ltb b ends_need l, le-ltb d ends_need k, lt-ltb max_file (length s) m)

        pub place-lines : (f : Refusal) → length s ≤ max_file → f ≡ lines_fault 1 (lines_of s) → f ≡ read_fault s a b d
        unfolding read_fault
        place-lines f m e =
            rw (e, le-ltb a max_file h, le-ltb b ends_need l, le-ltb d ends_need k, le-ltb max_file (length s) m)
            (sym (or_last (lines_fault 1 (lines_of s)) (lines-accepted 1 (lines_of s))))

module _ (s a b d : List ℕ) where
  pub read_refused : (f : Fault) → told f ≡ read_fault s (length a) (length b) (length d) → ReadSays s a a b b d d (written_from (Err f))
  read_refused f e =
      let z : (told f).number ≡ 0 → ⊥ = let h = told_speaks f in λ q. omega arith in
      rw (← e) (tray_refused (told f) (slips_in s) (sides_in s) z a b d)

  module _ (e : accepted ≡ read_fault s (length a) (length b) (length d)) where
    -- none of the rows holds, and each is left by its test
    silent : (n : ℕ) → refusal (suc n) 0 ≡ read_fault s (length a) (length b) (length d) → ⊥
    silent n q = let p : suc n ≡ 0 = ap (λ (r : Refusal). r.number) (q ∙ sym e) in omega arith

    pub read_lent : Lent s a b d
    read_lent =
        let x = length a in
        let y = length b in
        let w = length d in
        elim (dec_lt x max_file) [
          | yes h ↦ absurd (silent 14 (place-letters s x y w h))
          | no h ↦ elim (dec_lt y ends_need) [
            | yes l ↦ absurd (silent 14 (place-ends s x y w (omega arith) l))
            | no l ↦ elim (dec_lt w ends_need) [
              | yes k ↦ absurd (silent 14 (place_sides s x y w (omega arith) (omega arith) k))
              | no k ↦ elim (dec_lt max_file (length s)) [
                | yes m ↦ absurd (silent 15 (place_long s x y w (omega arith) (omega arith) (omega arith) m))
                | no m ↦ record {
                  good =
                      sym (e ∙ sym (place-lines s x y w (omega arith) (omega arith) (omega arith) (lines_fault 1 (lines_of s)) (omega arith) refl));
                  small = omega arith;
                  room = omega arith;
                  slots = omega arith;
                  marks = omega arith;
                }
              ]
            ]
          ]
        ]

    pub read_copied : (a' b' d' : List ℕ) (r : Written) → Copied s a a' b b' d d' r → ReadSays s a a' b b' d d' r
    read_copied a' b' d' r c = rw (← e) c
