-- Faults as the rows of the rules' table: what a call of this library answers as a Result, and other languages and sheets as a number and a detail.
--   told f      == the number of a fault in the table, and its detail, 0 where none is named
--   verdict r   == the same of an answer: 0 and 0 where it is no refusal
--   pair_from, located_from, written_from == the same with the letters of an overlap, the ends of a stretch, the size of a tray; 0 where it is refused
--   HandedOut P p r == P of what r hands out: its letters, where they stand in memory, number and detail; where r is a fault, of no letters at the place p
--   place_of o  == a place counted from 1, where o is an index; 0 for none
--   IsTray s es r == where r is a tray, it is that of just these lent letters and ends, where they stand
use Rattle.std.specs.Prelude.{◌≡◌, ℕ, ◌+◌, List, [], Option, None, Some, Result, Ok, Err}
use Rattle.std.specs.Borrow.{Bor}
use Rattle.trays.specs.declared.Refusal.{Refusal}
use Rattle.trays.specs.declared.Pair.{Pair}
use Rattle.trays.specs.declared.Located.{Located}
use Rattle.trays.specs.declared.Written.{Written}
use Rattle.trays.specs.declared.Location.{Location}
use Rattle.trays.specs.declared.TraySize.{TraySize}
use Rattle.trays.specs.declared.tray.Tray.{Tray}
use Rattle.trays.specs.declared.fault.Fault.{Fault}
use Rattle.trays.specs.declared.fault.Fault.TheVariants.{TooManySlips, EmptySlip, SlipTooLong, TooManyLetters, LastEndMismatch, BadSlipByte}
use Rattle.trays.specs.declared.fault.Fault.TheVariants.{WorkAreaTooSmall, LegendBufferTooSmall, JoinOrPlaceListTooSmall, NoSuchSlip, SameSlipTwice}
use Rattle.trays.specs.declared.fault.Fault.TheVariants.{TextTooLong, BadTextByte, FoundListTooSmall, TrayBuffersTooSmall, FileTooLong, BadLine}
use Rattle.trays.specs.declared.fault.Fault.TheVariants.{WrongSlipNumber, WrongLength, TooManyKeptSlips, LeastOverlapOutOfRange, BadSide, OtherIndex}
use Rattle.trays.specs.Faults.{refusal, accepted}

abbrev pub told : Fault → Refusal
told TooManySlips = refusal 1 0
told (EmptySlip slip) = refusal 2 slip
told (SlipTooLong slip) = refusal 3 slip
told TooManyLetters = refusal 4 0
told LastEndMismatch = refusal 5 0
told (BadSlipByte slip) = refusal 6 slip
told WorkAreaTooSmall = refusal 7 0
told (LegendBufferTooSmall letters) = refusal 8 letters
told (JoinOrPlaceListTooSmall joins) = refusal 9 joins
told (NoSuchSlip slip) = refusal 10 slip
told (SameSlipTwice slip) = refusal 11 slip
told TextTooLong = refusal 12 0
told (BadTextByte place) = refusal 13 place
told (FoundListTooSmall occurrences) = refusal 14 occurrences
told TrayBuffersTooSmall = refusal 15 0
told FileTooLong = refusal 16 0
told (BadLine line) = refusal 17 line
told (WrongSlipNumber line) = refusal 18 line
told (WrongLength line) = refusal 19 line
told TooManyKeptSlips = refusal 20 0
told LeastOverlapOutOfRange = refusal 21 0
told BadSide = refusal 22 0
told OtherIndex = refusal 23 0

abbrev pub verdict : {A : Type 0} → Result A Fault → Refusal
verdict (Ok x) = accepted
verdict (Err f) = told f

abbrev pub pair_from : Result ℕ Fault → Pair
pair_from (Ok n) = record { number = 0; detail = 0; letters = n }
pair_from (Err f) = record { number = (told f).number; detail = (told f).detail; letters = 0 }

abbrev pub located_from : Result Location Fault → Located
located_from (Ok x) = record { number = 0; detail = 0; start = x.start; end = x.end }
located_from (Err f) = record { number = (told f).number; detail = (told f).detail; start = 0; end = 0 }

abbrev pub written_from : Result TraySize Fault → Written
written_from (Ok x) = record { number = 0; detail = 0; letters = x.letters; slips = x.slips }
written_from (Err f) = record { number = (told f).number; detail = (told f).detail; letters = 0; slips = 0 }

abbrev pub place_of : Option ℕ → ℕ
place_of None = 0
place_of (Some i) = i + 1

abbrev pub IsTray : Bor (List ℕ) → Bor (List ℕ) → Result Tray Fault → Type 0
IsTray s es (Ok t) = (t.letters ≡ s) × (t.ends ≡ es)
IsTray s es (Err f) = Unit {0}

abbrev pub HandedOut : (List ℕ → ℕ × ℕ → ℕ → ℕ → Type 0) → ℕ × ℕ → Result (Bor (List ℕ)) Fault → Type 0
HandedOut P p (Ok x) = P x.now x.ref_ptr 0 0
HandedOut P p (Err f) = P [] (p.0, 0 + p.1) (told f).number (told f).detail
