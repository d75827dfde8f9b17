-- Lines, put column by column: what the calls of a line's function leave is the line. And sheets, put line by line.
--   NAME-put   == the line or sheet of the definition NAMELine or NAMELines, from the parts that were put
use mathlib.Core.Path.{◌≡◌}
use mathlib.Core.List.{List, [], ◌∷◌, append_assoc}
use Prim.Native.Nat.{ℕ, ◌+◌, ◌*◌}
use borrow.Author.Tests.{ne_eqb}
use native.Mathlib.Omega.{arith}
use lib.ListN.{length}
use Rattle.words.specs.Quoted.{word}
use Rattle.trays.specs.Faults.{refusal}
use Rattle.answers.specs.declared.Composed.{Composed}
use Rattle.file_rule.specs.Lines.{blank, lf}
use Rattle.trays.specs.Sides.{blank_side}
use Rattle.sheet_rule.specs.Sheets.{column, slip_line, join_line, sign_of, find_line, found_line, refused_line, lines}
use Rattle.sheet_rule.specs.Sheets.{slip_line_at, join_line_at, found_line_at, compose_lines, find_lines, place_width, count_width}
use Rattle.sheet_rule.specs.Sheets.{detail_width, slip_size, join_size, find_size, found_size, refused_size}
use Rattle.sheet_columns.specs.declared.Sheet.{Sheet}
use Rattle.sheet_columns.specs.Steps.Wrote.{Wrote, Writes}
use Rattle.sheet_lines.specs.Steps.Lines.{three_columns, head_size, Ended, Headed}
use Rattle.sheet_rule.specs.Lent.{Printed}
use Rattle.sheet_columns.proofs.Puts.{writes_more}

pub printed : (n r : ℕ) (ys old new : List ℕ) → Wrote 0 n ys old new r → Printed ys old new r
printed n r ys old new p = record { is = p.is; count = omega arith; fits = omega arith }

-- the whole sheet, in a buffer that held what new is afterwards
pub shown : {n : ℕ} {ys : List ℕ} {s s' : Sheet} {new : List ℕ} → s.at ≡ 0 → Writes n ys s s' → new ≡ s'.out.now → Printed ys s.out.now new s'.at
shown {n} {ys} {s} {s'} {new} z p e = rw e (printed n s'.at ys s.out.now s'.out.now (rw z at p.wrote))

-- the end of a header
module _ (b : ℕ) (s r : Sheet) where
  pub end_blank : b ≡ blank_side → Writes 1 (lf ∷ []) s r → Ended b s r
  end_blank e p = rw e (record { wrote = p; most = omega arith })

  pub end_marked : (b ≡ blank_side → ⊥) → (o o₁ : Sheet) → Writes 1 (blank ∷ []) s o → Writes 1 (b ∷ []) o o₁ → Writes 1 (lf ∷ []) o₁ r → Ended b s r
  end_marked e o o₁ p q x =
      let w = writes_more p (writes_more q x) in
      let t = ne_eqb b blank_side e in
      record { wrote = rw t w; most = rw t (omega arith) }

-- s, o, o₁, .. are the sheet before and after each part
module _ (s o o₁ r : Sheet) where
  pub found_put : (e i : ℕ) → Writes place_width (column place_width e) s o → Writes 4 (column 4 i) o o₁ → Writes 1 (lf ∷ []) o₁ r →
      Writes found_size (found_line e i) s r
  found_put e i p q t = writes_more p (writes_more q t)

  pub three_put : (w a b c : ℕ) → Writes w (column w a) s o → Writes w (column w b) o o₁ → Writes w (column w c) o₁ r →
      Writes (w + (w + w)) (three_columns w a b c) s r
  three_put w a b c p q t = writes_more p (writes_more q t)

  module _ (o₂ : Sheet) where
    pub refused_put : (number detail n : ℕ) → n ≡ number → Writes 7 (word "REFUSED") s o → Writes 4 (column 4 n) o o₁ →
        Writes detail_width (column detail_width detail) o₁ o₂ → Writes 1 (lf ∷ []) o₂ r → Writes refused_size (refused_line (refusal number detail)) s r
    refused_put number detail n e p q t u = rw (← e) (writes_more p (writes_more q (writes_more t u)))

    module _ (o₃ : Sheet) where
      pub head_put : (b : ℕ) (c : Composed) → Writes 4 (word "TRAY") s o → Writes 4 (column 4 c.slips) o o₁ → Writes 4 (column 4 c.kept) o₁ o₂ →
          Writes 15 (three_columns 5 c.letters c.saved c.legend) o₂ o₃ → Ended b o₃ r → Headed b c s r
      head_put b c p q t u w =
          record { wrote = simp append_assoc at (writes_more p (writes_more q (writes_more t (writes_more u w.wrote)))); most = w.most }

      pub find_put : (n m k : ℕ) → Writes 4 (word "FIND") s o → Writes place_width (column place_width n) o o₁ →
          Writes place_width (column place_width m) o₁ o₂ → Writes count_width (column count_width k) o₂ o₃ → Writes 1 (lf ∷ []) o₃ r →
          Writes find_size (find_line n m k) s r
      find_put n m k p q t u v = writes_more p (writes_more q (writes_more t (writes_more u v)))

      pub slip-put : (o₄ : Sheet) (i n p k m : ℕ) → k ≡ sign_of m → Writes 4 (column 4 i) s o → Writes 4 (column 4 n) o o₁ →
          Writes 5 (column 5 p) o₁ o₂ → Writes 1 (blank ∷ []) o₂ o₃ → Writes 1 (k ∷ []) o₃ o₄ → Writes 1 (lf ∷ []) o₄ r →
          Writes slip_size (slip_line i n p (sign_of m)) s r
      slip-put o₄ i n p k m e a b c d f g =
          rw (← e) (writes_more a (writes_more b (writes_more c (writes_more d (writes_more f g)))))

pub compose_put : {s o o₁ o₂ o₃ r : Sheet} (b : ℕ) (c : Composed) (es js ps t : List ℕ) → Headed b c s o →
    Writes (slip_size * c.slips) (lines (slip_line_at es ps) c.slips) o o₁ → Writes (join_size * c.joins) (lines (join_line_at js) c.joins) o₁ o₂ →
    Writes (length t) t o₂ o₃ → Writes 1 (lf ∷ []) o₃ r →
    Writes (head_size b + (slip_size * c.slips + (join_size * c.joins + (length t + 1)))) (compose_lines b c es js ps t) s r
compose_put b c es js ps t p q x u v = writes_more p.wrote (writes_more q (writes_more x (writes_more u v)))

pub find_all : {s o r : Sheet} (n m k : ℕ) (ns : List ℕ) → Writes find_size (find_line n m k) s o →
    Writes (found_size * k) (lines (found_line_at ns) k) o r → Writes (find_size + found_size * k) (find_lines n m k ns) s r
find_all n m k ns p q = writes_more p q

pub join-put : (s o r : Sheet) (l x n : ℕ) → Writes 12 (three_columns 4 l x n) s o → Writes 1 (lf ∷ []) o r → Writes join_size (join_line l x n) s r
join-put s o r l x n p q = simp append_assoc at (writes_more p q)
