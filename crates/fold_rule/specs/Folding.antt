-- Rules, folding: how a letter of a tray file or a text file is filed.
--   upper b    == the capital of a small letter; any other byte as it is
--   die_sign b  == the letter that the die has for b: V for U, I for J
--   fold b     == the sign that b is filed as; 0 where b is no sign
use Rattle.std.specs.Prelude.{◌&&◌, cond, ℕ, ◌-◌, eqb, leb}
use Rattle.trays.specs.Slips.{is_letter}

-- Small letters as capitals: a to z.
abbrev pub upper : ℕ → ℕ
upper b = cond (leb 97 b && leb b 122) (b - 32) b

-- U as V (85, 86), J as I (74, 73).
abbrev pub die_sign : ℕ → ℕ
die_sign b = cond (eqb b 85) 86 (cond (eqb b 74) 73 b)

-- A byte that is no sign then is filed as 0.
unfoldable pub fold : ℕ → ℕ
fold b = let c = die_sign (upper b) in cond (is_letter c) c 0
