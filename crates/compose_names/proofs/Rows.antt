-- Rows of numbers, put after the first cells of a table.
--   row_one      == one store is a row of one number
--   row_append   == a row put after a row: together one row
--   three_put    == three stores
--   join-named   == the row of one join
--   record_made  == the row of one record: its number, the three numbers of its place, its side
-- A row of several numbers is put as shorter rows, one after another.
use mathlib.Core.Path.{◌≡◌, refl, ◌∙◌}
use mathlib.Core.List.{List, [], ◌∷◌, ◌++◌, append_assoc}
use Prim.Native.Nat.{ℕ, ◌+◌, ◌*◌, ◌<◌}
use native.Mathlib.Numerals.{add-one}
use native.Mathlib.Omega.{arith}
use lib.ListN.{length, length-append}
use Rattle.words.specs.Lists.{entry}
use Rattle.tables.specs.Tables.{Got, Put, table}
use Rattle.tables.proofs.Tables.{put_more, put_only, only_trans, only_wider}
use Rattle.answers.specs.Composing.{place_cells, record_cells}
use Rattle.layout.specs.Layout.{PLACES, RECORDS}
use Rattle.compose_names.specs.Steps.Naming.{RowAsks, RowPut, RecordAsks, record_in}

row_one : {base n x : ℕ} {w w' : List ℕ} → base + n < length w → Put w base n x w' → RowPut base n (x ∷ []) w w'
row_one {base} {n} {x} {w} {w'} h p =
    record { row = put_more p (n + 1) h refl; only = only_wider (put_only p) (λ k e. record { from = omega arith; below = omega arith }) }

pub row_append : (base n m : ℕ) (xs ys u v w : List ℕ) → RowPut base n xs u v → RowPut base m ys v w → m ≡ n + length xs
    → RowPut base n (xs ++ ys) u w
row_append base n m xs ys u v w f g e =
    let l = length-append xs ys in
    let more : m + length ys ≡ n + length (xs ++ ys) = omega arith in
    record {
      row = rw more at g.row ∙ rw (e, f.row) (append_assoc (table u base n) xs ys);
      only =
          only_trans (only_wider f.only (λ k c. record { from = c.from; below = omega (arith, c.below) }))
          (only_wider g.only (λ k c. record { from = omega (arith, c.from); below = omega (arith, c.below) }));
    }

module _ (base n a b c : ℕ) (w : List ℕ) (h : RowAsks base n (a ∷ (b ∷ (c ∷ []))) w) where
  pub three_put : (w₁ w₂ w₃ : List ℕ) → Put w base n a w₁ → Put w₁ base (n + 1) b w₂ → Put w₂ base (n + 2) c w₃ → RowPut base n (a ∷ (b ∷ (c ∷ []))) w w₃
  three_put w₁ w₂ w₃ p q r =
      let x = row_one (omega (arith, h.room)) p in
      let y = row_one (omega (arith, h.room, p.same)) q in
      let z = row_one (omega (arith, h.room, p.same, q.same)) r in
      row_append base n (n + 2) (a ∷ (b ∷ [])) (c ∷ []) w w₂ w₃ (row_append base n (n + 1) (a ∷ []) (b ∷ []) w w₁ w₂ x y refl) z refl

module _ (w N : List ℕ) (i : ℕ) (h : RecordAsks w N i) where
  pub record_made : (b s p k o : ℕ) (w₁ w₂ w₃ : List ℕ) → Got w PLACES (place_cells * i) p → Got w PLACES (place_cells * i + 1) k
      → Got w PLACES (place_cells * i + 2) o → (s ≡ entry N (i + 1)) × (s < 65536) → Put w RECORDS (record_cells * i) s w₁
      → RowPut RECORDS (record_cells * i + 1) (p ∷ (k ∷ (o ∷ []))) w₁ w₂ → Put w₂ RECORDS (record_cells * i + 1 + place_cells) b w₃
      → RowPut RECORDS (record_cells * i) (record_in w N b i) w w₃
  record_made b s p k o w₁ w₂ w₃ is-p is-k is-o is-s first three last =
      let n : ℕ = record_cells * i in
      let x = row_one (omega (arith, h.room, h.few)) first in
      let z = row_one (omega (arith, h.room, h.few, first.same, three.only.same)) last in
      let f =
      row_append RECORDS n (n + 1 + place_cells) (s ∷ (p ∷ (k ∷ (o ∷ [])))) (b ∷ []) w w₂ w₃
      (row_append RECORDS n (n + 1) (s ∷ []) (p ∷ (k ∷ (o ∷ []))) w w₁ w₂ x three refl) z (omega arith) in
      rw (is-s.0, add-one i, is-p.is, is-k.is, is-o.is) at f
