use Rattle.std.proofs.Common.{inl, inr}
use Rattle.file_read.proofs.ReadRows.{place-letters, place-ends, place_sides, place_long, place-lines}
use Rattle.file_read.proofs.check_file.Goals as goal

pub returns-then-letters-lt-MAX_FILE : goal.returns-then-letters-lt-MAX_FILE
returns-then-letters-lt-MAX_FILE c =
    elim c.then-letters-lt-MAX_FILE.either [
      | inl h ↦ place-letters _ _ _ _ h
      | inr z ↦ elim z [
        | inl p ↦ place-ends _ _ _ _ p.0 p.1
        | inr p ↦ place_sides _ _ _ _ p.0 p.1 p.2
      ]
    ]

pub returns-then-file-gt-MAX_FILE : goal.returns-then-file-gt-MAX_FILE
returns-then-file-gt-MAX_FILE c = search place_long

pub returns : goal.returns
returns c = search place-lines
