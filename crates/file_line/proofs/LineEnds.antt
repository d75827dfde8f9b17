-- Where the first line of a text ends: behind its first LF, or with the text, if it has none. And that it ends in the file.
--   at_lf  == the place of the first LF, or the length of a text without one
use mathlib.Core.Path.{◌≡◌, refl}
use mathlib.Core.List.{List, [], ◌∷◌}
use Prim.Native.Nat.{ℕ, ◌+◌, ◌≤◌, ◌<◌}
use native.Mathlib.Omega.{arith}
use lib.Dec.{eqb}
use lib.ListN.{length, drop, length-drop}
use Rattle.std.specs.Prelude.{Some, None}
use Rattle.std.specs.List.{position_or_len, position}
use Rattle.words.proofs.Tests.{by_test}
use Rattle.file_line.proofs.Places.{place_of, place_none}
use Rattle.file_rule.specs.Lines.{lf, first_line}
use Rattle.file_rule.proofs.FirstLines.{first-lf, first_more, first-length}

abbrev at_lf : List ℕ → ℕ
at_lf s = position_or_len (λ b. eqb b lf) s

ends : (s : List ℕ) → (at_lf s < length s → at_lf s + 1 ≡ length (first_line s)) × (length s ≤ at_lf s → length s ≡ length (first_line s))
ends [] = (λ h. omega arith, λ h. refl)
ends (b ∷ s) =
    by_test (eqb b lf) (λ e. rw (e, first-lf b s e) (λ h. refl, λ h. omega arith))
    (λ e. rw (e, first_more b s e) (λ h. omega (arith, (ends s).0), λ h. omega (arith, (ends s).1)))

pub ends_at : (s : List ℕ) (i : ℕ) → Some i ≡ position (λ b. eqb b lf) s → i + 1 ≡ length (first_line s)
ends_at s i e = let h = place_of (λ b. eqb b lf) s i e in omega (arith, h.0, (ends s).0 (omega (arith, h.0, h.1)))

pub ends_so : (s : List ℕ) → None ≡ position (λ b. eqb b lf) s → length s ≡ length (first_line s)
ends_so s e = (ends s).1 (place_none (λ b. eqb b lf) s e)

pub end_within : (s : List ℕ) (at next : ℕ) → at < length s → next ≡ at + length (first_line (drop at s)) → next ≤ length s
end_within s at next h e = omega (arith, first-length (drop at s), length-drop at s)
