-- The ways through the check of a line, and the parser's answer.
--   line-..   == what each test of line_fault says of rows 17, 18, 19
--   parse_line, parse_end == the answers of line_at, the second behind the file's end
use mathlib.Core.Path.{◌≡◌, refl, sym, ◌∙◌}
use mathlib.Core.Bool.{true, false, and-false}
use mathlib.Core.List.{List}
use Prim.Native.Nat.{ℕ, suc, ◌+◌, ◌-◌, ◌≤◌, ◌<◌}
use borrow.Author.Tests.{le-leb, lt-leb, eq-eqb, ne_eqb}
use native.Mathlib.Nat.{add-sub_cancel_left}
use native.Mathlib.Omega.{arith}
use lib.ListN.{length, get_or, take, drop, drop_of_length-le}
use Rattle.words.specs.Lists.{last_or}
use Rattle.std.specs.Prelude.{Result, Err}
use Rattle.trays.specs.Sides.{is_side}
use Rattle.file_rule.specs.Lines.{lf, first_line, slip_field, length_field, side_field, is_laid_out}
use Rattle.file_rule.specs.Faults.{line_fault}
use Rattle.file_rule.specs.declared.Line.{Line}
use Rattle.file_rule.specs.declared.LineFault.{LineFault}
use Rattle.file_rule.specs.declared.LineFault.TheVariants.{Layout}
use Rattle.file_line.specs.Steps.Parsed.{IsLine, fault_number}
use Rattle.file_rule.proofs.FirstLines.{first-take}
use Rattle.file_rule.proofs.LastBytes.{last_byte}
use Rattle.file_rule.proofs.LineFaults.{letters-length}

module _ (l : List ℕ) (k : ℕ) where
  pub line_short : length l < 10 → 17 ≡ (line_fault k l).number
  line_short h = rw (lt-leb 10 (length l) h)

  -- what a line of 10 bytes at least ends with
  last_is : 10 ≤ length l → last_or 0 l ≡ get_or l (length l - 1) 0
  last_is h = last_byte l (omega arith)

  pub line_open : 10 ≤ length l → (get_or l (length l - 1) 0 ≡ lf → ⊥) → 17 ≡ (line_fault k l).number
  line_open h e = rw (le-leb 10 (length l) h, ne_eqb (last_or 0 l) lf (λ q. e (sym (last_is h) ∙ q)))

  pub line_side : is_side (side_field l) ≡ false → 17 ≡ (line_fault k l).number
  line_side q = simp (q, and-false)

  module _ (h : 10 ≤ length l) (e : get_or l (length l - 1) 0 ≡ lf) (q : is_side (side_field l) ≡ true)
      (slip : ℕ) (s : suc slip ≡ slip_field l) (stated : ℕ) (t : suc stated ≡ length_field l) where
    laid : is_laid_out l ≡ true
    laid =
        rw (
          le-leb 10 (length l) h,
          eq-eqb (last_or 0 l) lf (last_is h ∙ e),
          ← s,
          le-leb 1 (suc slip) (omega arith),
          ← t,
          le-leb 1 (suc stated) (omega arith),
          q,
        )

    pub line-number : (slip ≡ k → ⊥) → 18 ≡ (line_fault k l).number
    line-number n = rw (laid, ← s, ne_eqb (suc slip) (suc k) (λ q. n (omega arith)))

    module _ (n : slip ≡ k) where
      pub line-length : (stated ≡ length l - 10 → ⊥) → 19 ≡ (line_fault k l).number
      line-length m =
          rw (laid, ← s, eq-eqb (suc slip) (suc k) (omega arith), ← t, letters-length l, ne_eqb (suc stated) (suc (length l - 10)) (λ q. m (omega arith)))

      pub line_good : stated ≡ length l - 10 → 0 ≡ (line_fault k l).number
      line_good m = rw (laid, ← s, eq-eqb (suc slip) (suc k) (omega arith), ← t, letters-length l, eq-eqb (suc stated) (suc (length l - 10)) (omega arith))

-- the line that starts at `at` ends before `next`
pub parse_line : (s : List ℕ) (at k next : ℕ) (r : Result Unit LineFault) → next ≡ at + length (first_line (drop at s))
    → fault_number r ≡ (line_fault k (take (next - at) (drop at s))).number → IsLine s at k (record { checked = r; next = next })
parse_line s at k next r e f =
    let p : take (next - at) (drop at s) ≡ first_line (drop at s) = rw (e, add-sub_cancel_left) (first-take (drop at s)) in
    record { fault-is = rw (← p) f; next-is = e }

pub parse_end : (s : List ℕ) (at k : ℕ) → length s ≤ at → IsLine s at k (record { checked = Err Layout; next = at })
parse_end s at k h = record { fault-is = rw (drop_of_length-le s h); next-is = rw (drop_of_length-le s h) (omega arith) }
