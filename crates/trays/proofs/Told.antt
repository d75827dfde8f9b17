-- Faults as rows of the table.
--   told_speaks  == a fault has a number above 0
--   told-first   == the rows after a fault are not asked
--   told_next    == where a row is silent, those after it decide
--   at_tray, of_tray == what holds of lent letters and ends holds of the tray that they are
use mathlib.Core.Path.{◌≡◌, refl, sym, ◌∙◌, ap, subst}
use mathlib.Core.List.{List}
use Rattle.std.specs.Borrow.{Bor}
use Rattle.trays.specs.declared.tray.Tray.{Tray}
use Prim.Native.Nat.{ℕ, ◌≤◌}
use native.Mathlib.Omega.{arith}
use Rattle.trays.specs.declared.Refusal.{Refusal}
use Rattle.trays.specs.declared.fault.Fault.{Fault}
use Rattle.trays.specs.declared.fault.Fault.TheVariants.{TooManySlips, EmptySlip, SlipTooLong, TooManyLetters, LastEndMismatch, BadSlipByte}
use Rattle.trays.specs.declared.fault.Fault.TheVariants.{WorkAreaTooSmall, LegendBufferTooSmall, JoinOrPlaceListTooSmall, NoSuchSlip, SameSlipTwice}
use Rattle.trays.specs.declared.fault.Fault.TheVariants.{TextTooLong, BadTextByte, FoundListTooSmall, TrayBuffersTooSmall, FileTooLong, BadLine}
use Rattle.trays.specs.declared.fault.Fault.TheVariants.{WrongSlipNumber, WrongLength, TooManyKeptSlips, LeastOverlapOutOfRange, BadSide, OtherIndex}
use Rattle.trays.specs.Faults.{accepted, or_else}
use Rattle.trays.specs.Told.{told}
use Rattle.trays.proofs.Rows.{or_zero, or_some}

pub told_speaks : (f : Fault) → 1 ≤ (told f).number
told_speaks TooManySlips = omega arith
told_speaks (EmptySlip d) = omega arith
told_speaks (SlipTooLong d) = omega arith
told_speaks TooManyLetters = omega arith
told_speaks LastEndMismatch = omega arith
told_speaks (BadSlipByte d) = omega arith
told_speaks WorkAreaTooSmall = omega arith
told_speaks (LegendBufferTooSmall d) = omega arith
told_speaks (JoinOrPlaceListTooSmall d) = omega arith
told_speaks (NoSuchSlip d) = omega arith
told_speaks (SameSlipTwice d) = omega arith
told_speaks TextTooLong = omega arith
told_speaks (BadTextByte d) = omega arith
told_speaks (FoundListTooSmall d) = omega arith
told_speaks TrayBuffersTooSmall = omega arith
told_speaks FileTooLong = omega arith
told_speaks (BadLine d) = omega arith
told_speaks (WrongSlipNumber d) = omega arith
told_speaks (WrongLength d) = omega arith
told_speaks TooManyKeptSlips = omega arith
told_speaks LeastOverlapOutOfRange = omega arith
told_speaks BadSide = omega arith
told_speaks OtherIndex = omega arith

pub told-first : (f : Fault) (r rest : Refusal) → told f ≡ r → told f ≡ or_else r rest
told-first f r rest e = rw (← e) (sym (or_some (told f) rest (told_speaks f)))

pub told_next : (r rest : Refusal) → accepted ≡ r → rest ≡ or_else r rest
told_next r rest e = sym (or_zero r rest (ap (λ (x : Refusal). x.number) (sym e)))

-- what holds of the lent letters and ends holds of the tray that they are, and the other way
module _ (P : List ℕ → List ℕ → Type 0) (s es : Bor (List ℕ)) (t : Tray) (e : (t.letters ≡ s) × (t.ends ≡ es)) where
  pub at_tray : P s.now es.now → P t.letters.now t.ends.now
  at_tray h = subst (λ (x : Bor (List ℕ)). P x.now t.ends.now) (sym e.0) (subst (λ (x : Bor (List ℕ)). P s.now x.now) (sym e.1) h)

  pub of_tray : P t.letters.now t.ends.now → P s.now es.now
  of_tray h = subst (λ (x : Bor (List ℕ)). P s.now x.now) e.1 (subst (λ (x : Bor (List ℕ)). P x.now t.ends.now) e.0 h)
