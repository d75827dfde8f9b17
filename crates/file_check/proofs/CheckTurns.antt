-- The pass that checks every line, turn by turn.
--   Passed s at k == the line numbered k of the file s starts at the place `at`, and the lines before it have no fault
--   goes_on       == the same behind one line more without a fault
--   ends_bad, ends_good == what the pass answers
-- A line is the first of those that are left, so its fault, if it has one, is theirs.
use mathlib.Core.Path.{◌≡◌, sym, ◌∙◌, ap}
use mathlib.Core.List.{List}
use Prim.Native.Nat.{ℕ, suc, ◌+◌, ◌≤◌, ◌<◌}
use native.Mathlib.Numerals.{add-one}
use native.Mathlib.Omega.{arith}
use lib.ListN.{length, drop, length-drop, drop_of_length-le}
use Rattle.std.specs.Prelude.{Ok, Err}
use Rattle.trays.specs.Faults.{accepted, or_else}
use Rattle.trays.proofs.Rows.{or_zero, or_some}
use Rattle.file_rule.specs.declared.Line.{Line}
use Rattle.file_rule.specs.declared.LineFault.{LineFault}
use Rattle.file_rule.specs.declared.LineFault.TheVariants.{Layout, Number, Length}
use Rattle.file_rule.specs.Lines.{lines_of, first_line}
use Rattle.file_rule.specs.Faults.{line_fault, lines_fault}
use Rattle.file_rule.proofs.FirstLines.{lines_at, first-length, first_some}
use Rattle.file_rule.proofs.LineFaults.{fault_detail}
use Rattle.file_line.specs.Steps.Parsed.{IsLine, fault_number}
use Rattle.file_check.specs.Readers.{refused_line}

pub record Passed (s : List ℕ) (at k : ℕ) : Type 0 where
  pub within : at ≤ length s
  pub few : k ≤ at + 1
  pub same : lines_fault 1 (lines_of s) ≡ lines_fault k (lines_of (drop at s))

pub ends_good : (s : List ℕ) (at k : ℕ) → Passed s at k → length s ≤ at → accepted ≡ lines_fault 1 (lines_of s)
ends_good s at k p h = rw (p.same, drop_of_length-le s h)

-- what is wrong with a line has a number
numbered : (f : LineFault) → 1 ≤ fault_number (Err f)
numbered Layout = omega arith
numbered Number = omega arith
numbered Length = omega arith

module _ (s : List ℕ) (at k : ℕ) (l : Line) (p : Passed s at k) (g : at < length s) (e : IsLine s at k l) where
  abbrev line : List ℕ
  line = first_line (drop at s)

  next_is : l.next ≡ at + length line
  next_is = e.next-is

  next_after : at < l.next
  next_after = omega (arith, next_is, g, first_some (drop at s) (rw length-drop (omega (arith, g))))

  next_within : l.next ≤ length s
  next_within = omega (arith, next_is, g, first-length (drop at s), length-drop at s)

  faults_at : lines_fault 1 (lines_of s) ≡ or_else (line_fault k line) (lines_fault (suc k) (lines_of (drop (at + length line) s)))
  faults_at = p.same ∙ ap (lines_fault k) (lines_at s at g)

  pub ends_bad : (f : LineFault) → l.checked ≡ Err f → refused_line f k ≡ lines_fault 1 (lines_of s)
  ends_bad f q =
      let n : fault_number (Err f) ≡ (line_fault k line).number = ap fault_number (sym q) ∙ e.fault-is in
      let h = numbered f in
      let y : (line_fault k line).number ≡ 0 → ⊥ = λ z. omega arith in
      rw (faults_at, or_some (line_fault k line) _ (omega arith), n) (fault_detail k line y)

  pub goes_on : (x : Unit {0}) → l.checked ≡ Ok x → Passed s l.next (k + 1)
  goes_on x q = record {
    within = next_within;
    few = omega (arith, p.few, next_after);
    same = rw (add-one k, next_is) (faults_at ∙ or_zero _ _ (sym (ap fault_number (sym q) ∙ e.fault-is)));
  }
