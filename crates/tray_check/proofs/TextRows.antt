-- Rows 12 and 13, and the ways through check_text.
--   place-most  == the place of the first bad byte is within the text
use mathlib.Core.Path.{◌≡◌}
use mathlib.Core.List.{List, [], ◌∷◌}
use Prim.Native.Nat.{ℕ, suc, ◌+◌, ◌≤◌, ◌<◌}
use borrow.Author.Tests.{lt-ltb, le-ltb, le-leb}
use native.Mathlib.Omega.{arith}
use lib.ListN.{length}
use Rattle.words.proofs.Tests.{by_test}
use Rattle.trays.specs.Limits.{max_text}
use Rattle.trays.specs.Slips.{is_letter}
use Rattle.trays.specs.Faults.{refusal, accepted, bad_place, first_row, text_rows}

place-from : (i : ℕ) (t : List ℕ) → bad_place i t ≤ i + length t
place-from i [] = omega arith
place-from i (b ∷ bs) =
    by_test (is_letter b)
    (λ e. rw (e, bad_place) (omega (arith, place-from (suc i) bs)))
    (λ e. rw (e, bad_place) (omega arith))

pub place-most : (t : List ℕ) → bad_place 1 t ≤ 1 + length t
place-most t = place-from 1 t

module _ (t : List ℕ) where
  pub text_long : max_text < length t → refusal 12 0 ≡ first_row (text_rows t)
  text_long h = rw (lt-ltb max_text (length t) h)

  module _ (h : length t ≤ max_text) where
    pub text_bad : (i : ℕ) → i + 1 ≡ bad_place 1 t → refusal 13 (i + 1) ≡ first_row (text_rows t)
    text_bad i p = rw (le-ltb max_text (length t) h, ← p, le-leb 1 (i + 1) (omega arith))

    pub text_good : 0 ≡ bad_place 1 t → accepted ≡ first_row (text_rows t)
    text_good p = rw (le-ltb max_text (length t) h, ← p)
