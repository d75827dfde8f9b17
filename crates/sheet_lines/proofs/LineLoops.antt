-- The loops that write lines, one more turn of each.
--   lines_more   == one line more
--   lines_turn   == one more turn
--   slip_turn, join_turn, found_turn  == one more turn of the three loops that write lines
use mathlib.Core.Path.{◌≡◌, ◌∙◌, ap}
use mathlib.Core.List.{List, [], ◌∷◌, ◌++◌, append-nil}
use Prim.Native.Nat.{ℕ, zero, suc, ◌+◌, ◌-◌, ◌*◌}
use native.Mathlib.Nat.{add-zero, mul-suc}
use native.Mathlib.Numerals.{add-one}
use native.Mathlib.Omega.{arith}
use lib.ListN.{get_or}
use Rattle.words.specs.Lists.{each, up_from}
use Rattle.words.proofs.Members.{each_append}
use Rattle.trays.specs.declared.Span.{Span}
use Rattle.trays.specs.Slips.{span_of}
use Rattle.answers.specs.Composing.{join_cells, record_cells}
use Rattle.sheet_rule.specs.Sheets.{slip_line, join_line, sign_of, found_line, lines}
use Rattle.sheet_rule.specs.Sheets.{slip_line_at, join_line_at, found_line_at, slip_size, join_size, found_size}
use Rattle.sheet_columns.specs.declared.Sheet.{Sheet}
use Rattle.sheet_columns.specs.Steps.Wrote.{Writes}
use Rattle.sheet_columns.proofs.Puts.{writes_more}

up_from_more : (i n : ℕ) → up_from i (suc n) ≡ up_from i n ++ ((i + n) ∷ [])
up_from_more i zero = rw (add-zero i)
up_from_more i (suc n) = ap (λ l. i ∷ l) (up_from_more (suc i) n ∙ let e : suc i + n ≡ i + suc n = omega arith in rw e)

lines_more : (f : ℕ → List ℕ) (n : ℕ) → lines f (n + 1) ≡ lines f n ++ f n
lines_more f n =
    let e : 0 + n ≡ n = omega arith in
    rw (add-one n) (ap (each f) (up_from_more 0 n)) ∙ each_append f (up_from 0 n) ((0 + n) ∷ []) ∙ rw (e, append-nil)

lines_turn : (f : ℕ → List ℕ) (w i : ℕ) (s o r : Sheet) → Writes (w * i) (lines f i) s o → Writes w (f i) o r → Writes (w * (i + 1)) (lines f (i + 1)) s r
lines_turn f w i s o r p q =
    let e : w * (i + 1) ≡ w * i + w = rw (add-one i) (mul-suc w i) in
    rw (lines_more f i, e) (writes_more p q)

pub slip_turn : (es ps : List ℕ) (i slip place mark : ℕ) (p : Span) (s o r : Sheet) → slip ≡ get_or ps (record_cells * i) 0 →
    place ≡ get_or ps (record_cells * i + 1) 0 → mark ≡ get_or ps (record_cells * i + 2) 0 → p ≡ span_of es slip →
    Writes (slip_size * i) (lines (slip_line_at es ps) i) s o → Writes slip_size (slip_line slip (p.end - p.start) place (sign_of mark)) o r →
    Writes (slip_size * (i + 1)) (lines (slip_line_at es ps) (i + 1)) s r
slip_turn es ps i slip place mark p s o r a b c q x y = lines_turn (slip_line_at es ps) slip_size i s o r x (rw (q, a, b, c) at y)

pub join_turn : (js : List ℕ) (i left right shared : ℕ) (s o r : Sheet) → left ≡ get_or js (join_cells * i) 0 →
    right ≡ get_or js (join_cells * i + 1) 0 → shared ≡ get_or js (join_cells * i + 2) 0 → Writes (join_size * i) (lines (join_line_at js) i) s o →
    Writes join_size (join_line left right shared) o r → Writes (join_size * (i + 1)) (lines (join_line_at js) (i + 1)) s r
join_turn js i left right shared s o r a b c x y = lines_turn (join_line_at js) join_size i s o r x (rw (a, b, c) at y)

pub found_turn : (ns : List ℕ) (i end slip : ℕ) (s o r : Sheet) → end ≡ get_or ns (2 * i) 0 → slip ≡ get_or ns (2 * i + 1) 0 →
    Writes (found_size * i) (lines (found_line_at ns) i) s o → Writes found_size (found_line end slip) o r →
    Writes (found_size * (i + 1)) (lines (found_line_at ns) (i + 1)) s r
found_turn ns i end slip s o r a b x y = lines_turn (found_line_at ns) found_size i s o r x (rw (a, b) at y)
