-- The text of a text file: one final LF is not counted, and the letters are folded.
--   trim-..        == the three ways through text_length
--   filed_text     == the text, folded where it stands, is the first part of the file
--   take_count     == a part has as many bytes as it says
use mathlib.Core.Path.{◌≡◌, refl, sym, ◌∙◌, ap}
use mathlib.Core.Bool.{Bool, true, false}
use mathlib.Core.List.{List, [], ◌∷◌, ◌++◌, map}
use Prim.Native.Nat.{ℕ, ◌-◌, ◌≤◌}
use borrow.Author.Tests.{eq-eqb, ne_eqb}
use native.Mathlib.Omega.{arith}
use lib.ListN.{length, get_or, take, drop, length-append, length-drop, length-map}
use lib.Seq.{take-length, length-take-le, take_at}
use Rattle.words.specs.Lists.{last_or}
use Rattle.fold_rule.specs.Folding.{fold}
use Rattle.file_rule.specs.Lines.{lf}
use Rattle.file_rule.proofs.LastBytes.{last_byte}
use Rattle.sheet_of_text.specs.Steps.Lent.{Trimmed, Filed}

pub trim_empty : (x : List ℕ) → length x ≡ 0 → Trimmed x 0
trim_empty [] z = record { within = omega arith; is = refl }
trim_empty (b ∷ x) z = absurd (omega arith)

-- the text, where the test for a final LF says b
abbrev told : List ℕ → Bool → List ℕ
told x b = elim b [ true ↦ take (length x - 1) x | false ↦ x ]

module _ (x : List ℕ) (some : length x ≡ 0 → ⊥) where
  last : get_or x (length x - 1) 0 ≡ last_or 0 x
  last = sym (last_byte x (omega arith))

  pub trim_ended : get_or x (length x - 1) 0 ≡ lf → Trimmed x (length x - 1)
  trim_ended e = record { within = omega arith; is = sym (ap (told x) (eq-eqb (last_or 0 x) lf (sym last ∙ e))) }

  pub trim_open : (get_or x (length x - 1) 0 ≡ lf → ⊥) → Trimmed x (length x)
  trim_open e = record { within = omega arith; is = take-length x ∙ sym (ap (told x) (ne_eqb (last_or 0 x) lf (λ q. e (last ∙ q)))) }

pub filed_text : (x p : List ℕ) (m : ℕ) → Trimmed x m → p ≡ map fold (take m x) → Filed x (p ++ drop m x) m
filed_text x p m q e =
    let n : length p ≡ m = rw (e, length-map) (length-take-le m x q.within) in
    record {
      same = rw (length-append p (drop m x), length-drop) (omega (arith, q.within));
      within = rw (length-append p (drop m x)) (omega arith);
      is = take_at p (drop m x) m n ∙ e ∙ ap (map fold) q.is;
    }

pub take_count : (m : ℕ) (x : List ℕ) → m ≤ length x → m ≡ length (take m x)
take_count m x h = sym (length-take-le m x h)
