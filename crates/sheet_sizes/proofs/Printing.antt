-- What the functions that print ask and leave.
--   printed_is                == what is written, by another name
--   counted                   == what was printed is the first part of the buffer: so the programs write it
--   find_ready, find_printed  == of finding: the function's asks are met, and what is written is the sheet of the text
use mathlib.Core.Path.{◌≡◌, sym, ◌∙◌, ap}
use mathlib.Core.List.{List}
use Prim.Native.Nat.{ℕ, ◌≤◌}
use native.Mathlib.Omega.{arith}
use lib.ListN.{length, take}
use lib.Seq.{length-take-le}
use Rattle.words.proofs.Buffers.{length_over}
use Rattle.trays.specs.Limits.{max_text}
use Rattle.trays.specs.Slips.{slips_of}
use Rattle.trays.specs.Faults.{tray_fault}
use Rattle.matching.specs.Moves.{moves}
use Rattle.matching.specs.Occurrences.{occurrences}
use Rattle.answers.specs.Finding.{flat_found}
use Rattle.sheet_rule.specs.Sheets.{find_lines, find_sheet_of, max_found, find_room}
use Rattle.sheet_lines.specs.Steps.Lines.{FindAsks}
use Rattle.sheet_rule.specs.Lent.{Printed}
use Rattle.sheet_sizes.proofs.Flat.{find_lines_are}
use Rattle.sheet_sizes.proofs.Asks.{find_asks}

pub printed_is : (xs ys o o' : List ℕ) (n : ℕ) → xs ≡ ys → Printed xs o o' n → Printed ys o o' n
printed_is xs ys o o' n e p = rw e at p

pub counted : (xs o o' : List ℕ) (n : ℕ) → Printed xs o o' n → (n ≤ length o') × (n ≡ length (take n o'))
counted xs o o' n p =
    let e : length o' ≡ length o = ap length p.is ∙ length_over xs o p.fits in
    let l : n ≤ length o' = omega (arith, p.count, p.fits) in
    (l, sym (length-take-le n o' l))

module _ (s es : List ℕ) (acc : (tray_fault s es).number ≡ 0) where
  abbrev ss : List (List ℕ)
  ss = slips_of s es

  module _ (t : List ℕ) (n m k : ℕ) (ns : List ℕ) (en : n ≡ length t) (em : m ≡ moves ss t) (ek : k ≡ length (occurrences ss t))
      (es' : ns ≡ flat_found (occurrences ss t)) where
    pub find_ready : length t ≤ max_text → k ≤ max_found → (room : ℕ) → find_room ≤ room → FindAsks n m k ns room
    find_ready small few room h = rw (en, em, ek, es') (find_asks s es acc t small (rw ek at few) room h)

    pub find_printed : (old new : List ℕ) (r : ℕ) → Printed (find_lines n m k ns) old new r → Printed (find_sheet_of ss t) old new r
    find_printed old new r p = rw (en, em, ek, es', find_lines_are ss t) at p
