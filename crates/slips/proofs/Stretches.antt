-- Where a slip stands: its stretch rises and fits, and the part handed out is the slip.
use mathlib.Core.Path.{◌≡◌, sym}
use mathlib.Core.List.{List}
use Prim.Native.Nat.{ℕ, ◌-◌, ◌≤◌}
use native.Mathlib.Omega.{arith}
use lib.ListN.{length, take, drop}
use Rattle.trays.specs.declared.Span.{Span}
use Rattle.trays.specs.Slips.{slips_of, slip, span_of}
use Rattle.trays.specs.Faults.{tray_fault}
use Rattle.trays.proofs.Accepted.{span_slip, span_rises, span_fits}

-- the part handed out is the slip
module _ (s es : List ℕ) (i : ℕ) (p : Span) (h : p ≡ span_of es i) (acc : (tray_fault s es).number ≡ 0) (one : 1 ≤ i) (most : i ≤ length es) where
  pub part_rises : p.start ≤ p.end
  part_rises = rw h (omega (arith, span_rises s es acc i one most))

  pub part_fits : p.end ≤ length s
  part_fits = rw h (span_fits s es acc i one most)

  pub part_is : take (p.end - p.start) (drop p.start s) ≡ slip (slips_of s es) i
  part_is = rw h (sym (span_slip s es acc i one most))
