-- Columns are read back by the rule of tray files: right-justified, blanks in front, no leading zeros.
--   decimal-number   == the digits of n write n
--   decimal-first    == they begin with a digit, not with 0 unless n is 0
--   column_read      == what columns hold is the number
-- By the digits of the tenth of a number: one digit more makes ten times as much and that digit.
use mathlib.Core.Path.{◌≡◌, refl, ◌∙◌, ap}
use mathlib.Core.Bool.{true}
use mathlib.Core.List.{List, [], ◌∷◌, ◌++◌}
use Prim.Native.Nat.{ℕ, zero, suc, ◌+◌, ◌-◌, ◌*◌, ◌/◌, ◌%◌, ◌≤◌, ◌<◌}
use borrow.Author.Tests.{le-leb, ne_eqb}
use native.Mathlib.Decide.{dec_lt}
use native.Mathlib.Omega.{arith}
use lib.ListN.{length, replicate}
use Rattle.words.proofs.Tests.{by_test}
use Rattle.file_rule.specs.Lines.{blank, is_digit, number, field}
use Rattle.sheet_rule.specs.Sheets.{digit, decimal, column}
use Rattle.sheet_rule.proofs.Columns.{decimal_small, decimal_more}

digit-is : (c : ℕ) → c < 10 → is_digit (digit c) ≡ true
digit-is c h = rw (le-leb 48 (48 + c) (omega arith), le-leb (48 + c) 57 (omega arith))

number_last : (xs : List ℕ) (v u c : ℕ) → c < 10 → number v xs ≡ suc u → number v (xs ++ (digit c ∷ [])) ≡ suc (10 * u + c)
number_last [] v u c h e =
    let d : digit c - 48 ≡ c = omega arith in
    let f : v ≡ u = omega arith in
    rw (digit-is c h, number, d, f)
number_last (x ∷ xs) v u c h e =
    by_test (is_digit x)
    (λ t. rw (t, number) (number_last xs (10 * v + (x - 48)) u c h (rw (t, number) at e)))
    (λ t. absurd (omega (arith, rw (t, number) at e)))

decimal-number : (f n : ℕ) → n < f → number 0 (decimal n) ≡ suc n
decimal-number zero n h = absurd (omega arith)
decimal-number (suc f) n h =
    elim (dec_lt n 10) [
      | yes s ↦ rw (decimal_small n s) (number_last [] 0 0 n s refl ∙ omega arith)
      | no s ↦
          rw (decimal_more n (omega arith))
          (number_last (decimal (n / 10)) 0 (n / 10) (n % 10) (omega arith) (decimal-number f (n / 10) (omega arith)) ∙ omega arith)
    ]

decimal-first : (f n : ℕ) → n < f → (c : ℕ) × (cs : List ℕ) × (decimal n ≡ c ∷ cs) × (48 ≤ c) × (1 ≤ n → 49 ≤ c)
decimal-first zero n h = absurd (omega arith)
decimal-first (suc f) n h =
    elim (dec_lt n 10) [
      | yes s ↦ (digit n, [], decimal_small n s, omega arith, λ p. omega arith)
      | no s ↦
          let (c, cs, e, a, b) = decimal-first f (n / 10) (omega arith) in
          (c, cs ++ (digit (n % 10) ∷ []), decimal_more n (omega arith) ∙ ap (λ l. l ++ (digit (n % 10) ∷ [])) e, a, λ p. b (omega arith))
    ]

field-first : (c : ℕ) (cs : List ℕ) → 49 ≤ c → field (c ∷ cs) ≡ number 0 (c ∷ cs)
field-first c cs h =
    let x : c ≡ blank → ⊥ = λ e. omega arith in
    let y : c ≡ 48 → ⊥ = λ e. omega arith in
    rw (ne_eqb c blank x, ne_eqb c 48 y, field)

decimal-field : (n : ℕ) → field (decimal n) ≡ suc n
unfolding decimal
decimal-field zero = refl
decimal-field (suc n) =
    let (c, cs, e, a, b) = decimal-first (suc (suc n)) (suc n) (omega arith) in
    ap field e ∙ field-first c cs (b (omega arith)) ∙ rw (← e) (decimal-number (suc (suc n)) (suc n) (omega arith))

field_blanks : (k : ℕ) (xs : List ℕ) → field (replicate k blank ++ xs) ≡ field xs
field_blanks zero xs = refl
field_blanks (suc k) xs = field_blanks k xs

pub column_read : (w n : ℕ) → field (column w n) ≡ suc n
unfolding column
column_read w n = field_blanks (w - length (decimal n)) (decimal n) ∙ decimal-field n
