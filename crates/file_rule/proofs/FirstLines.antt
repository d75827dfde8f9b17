-- The first line of a file.
--   first-lf, first_more == it ends at the first LF, or goes on
--   first-take           == it is the first part of the file
--   lines_cons, lines_at == the lines, from the start or a place on, are the first one and those of what is left behind it
-- All go by cases on the first byte, as lines_of does.
use mathlib.Core.Path.{◌≡◌, refl, ap}
use mathlib.Core.Bool.{true, false}
use mathlib.Core.List.{List, [], ◌∷◌}
use Prim.Native.Nat.{ℕ, ◌+◌, ◌≤◌, ◌<◌}
use native.Mathlib.Omega.{arith}
use lib.Dec.{eqb}
use lib.ListN.{length, take, drop, length-take, length-drop}
use lib.Seq.{drop-drop}
use Rattle.words.specs.Lists.{head_or}
use Rattle.words.proofs.Tests.{by_test}
use Rattle.file_rule.specs.Lines.{lf, on_first, lines_of, first_line}

first_on : (b : ℕ) (ls : List (List ℕ)) → head_or [] (on_first b ls) ≡ b ∷ head_or [] ls
first_on b [] = refl
first_on b (l ∷ ls) = refl

pub first-lf : (b : ℕ) (s : List ℕ) → eqb b lf ≡ true → first_line (b ∷ s) ≡ b ∷ []
first-lf b s e = rw (e, lines_of)

pub first_more : (b : ℕ) (s : List ℕ) → eqb b lf ≡ false → first_line (b ∷ s) ≡ b ∷ first_line s
first_more b s e = rw (e, lines_of) (first_on b (lines_of s))

pub first-take : (s : List ℕ) → take (length (first_line s)) s ≡ first_line s
first-take [] = refl
first-take (b ∷ s) =
    by_test (eqb b lf) (λ e. rw (first-lf b s e)) (λ e. rw (first_more b s e) (ap (λ l. b ∷ l) (first-take s)))

pub first-length : (s : List ℕ) → length (first_line s) ≤ length s
first-length s = omega (arith, length-take (length (first_line s)) s, ap length (first-take s))

pub first_some : (s : List ℕ) → 1 ≤ length s → 1 ≤ length (first_line s)
first_some [] h = h
first_some (b ∷ s) h =
    by_test (eqb b lf) (λ e. rw (first-lf b s e) (omega arith)) (λ e. rw (first_more b s e) (omega arith))

pub lines_cons : (s : List ℕ) → 1 ≤ length s → lines_of s ≡ first_line s ∷ lines_of (drop (length (first_line s)) s)
lines_cons [] h = absurd (omega arith)
lines_cons (b ∷ s) h = by_test (eqb b lf) (λ e. rw (first-lf b s e, e, lines_of)) (λ e. rw (first_more b s e, e, lines_of) (more s (lines_cons s)))
  where
    more : (t : List ℕ) → (1 ≤ length t → lines_of t ≡ first_line t ∷ lines_of (drop (length (first_line t)) t))
        → on_first b (lines_of t) ≡ (b ∷ first_line t) ∷ lines_of (drop (length (first_line t)) t)
    more [] e = refl
    more (c ∷ t) e = ap (on_first b) (e (omega arith))

pub lines_at : (s : List ℕ) (at : ℕ) → at < length s → lines_of (drop at s) ≡ first_line (drop at s) ∷ lines_of (drop (at + length (first_line (drop at s))) s)
lines_at s at h = rw (← drop-drop) (lines_cons (drop at s) (rw length-drop (omega arith)))
