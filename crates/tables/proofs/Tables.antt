-- Laws of tables: what a table holds after a store, and which cells a function leaves as they were.
--   Filling base n xs i w w'  == only the n cells from base on have changed, and the first i of them are the first i of xs
--   table-..      == a table as a list: its length, its members, one cell more
--   put-..        == one store: its own table, its cell and every other cell
--   only-..       == frames: reflexive, transitive, wider, one store more, a table that is kept
--   cells-..      == a frame that is one table
--   filling-..    == a table filled in order: none, one more, all
--   filled-..     == a table that has been filled
--   part-..       == a table lent as a part of the work area
-- A table is `take n (drop base w)`. A store inside is a `set` of that list; all else goes by cells: lists of one length with equal cells are
-- equal, and a cell whose place is not in the frame is as it was.
use mathlib.Core.Path.{◌≡◌, refl, sym, ap, ◌∙◌}
use mathlib.Core.List.{List, [], ◌∷◌, ◌++◌}
use Prim.Native.Nat.{ℕ, ◌+◌, ◌-◌, ◌≤◌, ◌<◌, min}
use native.Mathlib.Decide.{dec_lt}
use native.Mathlib.Numerals.{add-one}
use native.Mathlib.Omega.{arith}
use lib.ListN.{length, get_or, set, take, drop, length-take, length-drop, replicate, length-replicate, get_or-replicate, take-append-drop}
use lib.Seq.{get_or-take, get_or-drop, get_or-set_same, get_or-set_other, take-set-lt, drop-set-add}
use lib.Seq.{take-suc, take-suc-set, ext_get_or, take_all, length-take-le, take_at, drop_at, take-take}
use borrow.Rule.Slice.PartMut.{put_mid, mid_of, mid_len, same_len_mid, take_put, drop_put}
use Rattle.words.specs.Lists.{over}
use Rattle.tables.specs.Tables.{Put, table, Cells, Only, Filled}

-- a table as a list
pub table-length : (w : List ℕ) (base n : ℕ) → base + n ≤ length w → length (table w base n) ≡ n
unfolding table
table-length w base n h = simp (length-take, length-drop) (omega arith)

pub table_at : (w : List ℕ) (base n i : ℕ) → i < n → get_or (table w base n) i 0 ≡ get_or w (base + i) 0
unfolding table
table_at w base n i h = rw (get_or-take, get_or-drop)

pub table-take : (w : List ℕ) (base k n : ℕ) → k ≤ n → take k (table w base n) ≡ table w base k
unfolding table
table-take w base k n h = rw take-take

pub table_more : (w : List ℕ) (base n m : ℕ) → base + n < length w → m ≡ n + 1 → table w base m ≡ table w base n ++ (get_or w (base + n) 0 ∷ [])
unfolding table
table_more w base n m h e =
    let l : n < length (drop base w) = rw length-drop (omega arith) in
    rw (e, add-one, take-suc (drop base w) n 0 l, get_or-drop)

table_size : (w : List ℕ) (base n : ℕ) → length (table w base n) ≡ min n (length w - base)
unfolding table
table_size w base n = simp (length-take, length-drop)

-- equal cells make equal tables
pub table_same : (w w' : List ℕ) (base n : ℕ) → length w' ≡ length w → ((i : ℕ) → i < n → get_or w' (base + i) 0 ≡ get_or w (base + i) 0) →
    table w' base n ≡ table w base n
table_same w w' base n l e =
    let s = table_size w base n in
    let s' = table_size w' base n in
    ext_get_or 0 (table w' base n) (table w base n) (rw (s, s', l))
    (λ i h. let k : i < n = omega arith in rw (table_at w' base n i k, table_at w base n i k) (e i k))

-- frames
pub only-refl : {P : ℕ → Type 0} {w : List ℕ} → Only P w w
only-refl = record { same = refl; kept = λ p n. refl }

pub only_trans : {P : ℕ → Type 0} {u v w : List ℕ} → Only P u v → Only P v w → Only P u w
only_trans f g = record { same = g.same ∙ f.same; kept = λ p n. g.kept p n ∙ f.kept p n }

pub only_wider : {P Q : ℕ → Type 0} {w w' : List ℕ} → Only P w w' → ((p : ℕ) → P p → Q p) → Only Q w w'
only_wider f i = record { same = f.same; kept = λ p n. f.kept p (λ q. n (i p q)) }

pub only-table : {P : ℕ → Type 0} {w w' : List ℕ} (base n : ℕ) → Only P w w' → ((i : ℕ) → i < n → P (base + i) → ⊥) → table w' base n ≡ table w base n
only-table {w = w} {w' = w'} base n f d = table_same w w' base n f.same (λ i h. f.kept (base + i) (d i h))

-- one store, as `put` makes it
module _ {w w' : List ℕ} {base i x : ℕ} (p : Put w base i x w') where
  pub put_only : Only (λ k. k ≡ base + i) w w'
  put_only = record { same = p.same; kept = λ k n. rw (p.is, get_or-set_other w (base + i) k x 0 n) }

  pub put-here : base + i < length w → get_or w' (base + i) 0 ≡ x
  put-here h = rw (p.is, get_or-set_same w (base + i) x 0 h)

  pub put_other : (k : ℕ) → (k ≡ i → ⊥) → get_or w' (base + k) 0 ≡ get_or w (base + k) 0
  put_other k h = put_only.kept (base + k) (λ e. h (omega arith))

  pub put-table : (n : ℕ) → i < n → table w' base n ≡ set (table w base n) i x
  unfolding table
  put-table n h = rw (p.is, drop-set-add, take-set-lt)

  pub put_more : (m : ℕ) → base + i < length w → m ≡ i + 1 → table w' base m ≡ table w base i ++ (x ∷ [])
  unfolding table
  put_more m h e =
      let l : i < length (drop base w) = rw length-drop (omega arith) in
      rw (e, add-one, p.is, drop-set-add, take-suc-set (drop base w) i x l)

pub only-put : {P : ℕ → Type 0} {u w w' : List ℕ} {base i x : ℕ} → Only P u w → Put w base i x w' → P (base + i) → Only P u w'
only-put {P = P} f p h = only_trans f (only_wider (put_only p) (λ k e. rw e h))

-- a frame that is one table
pub cells_outside : {w w' : List ℕ} {base n : ℕ} → length w' ≡ length w → take base w' ≡ take base w → drop (base + n) w' ≡ drop (base + n) w →
    Only (Cells base n) w w'
cells_outside {w} {w'} {base} {n} l f b =
    record {
      same = l;
      kept = λ p out. elim (dec_lt p base) [
        | yes h ↦ sym (get_or-take base w' p 0 h) ∙ ap (λ (v : List ℕ). get_or v p 0) f ∙ get_or-take base w p 0 h
        | no h ↦ elim (dec_lt p (base + n)) [
          | yes k ↦ absurd (out (omega arith))
          | no k ↦
              let e : base + n + (p - (base + n)) ≡ p = omega arith in
              rw e at (sym (get_or-drop (base + n) w' (p - (base + n)) 0) ∙ ap (λ (v : List ℕ). get_or v (p - (base + n)) 0) b
              ∙ get_or-drop (base + n) w (p - (base + n)) 0)
        ]
      ];
    }

pub cells-put : {u w w' : List ℕ} {base n i x : ℕ} → Only (Cells base n) u w → Put w base i x w' → i < n → Only (Cells base n) u w'
cells-put f p h = only-put f p (omega arith)

pub cells-below : {w w' : List ℕ} {a m : ℕ} (base n : ℕ) → Only (Cells a m) w w' → base + n ≤ a → table w' base n ≡ table w base n
cells-below base n f h = only-table base n f (λ i l c. omega arith)

-- a table that is filled in order
pub record Filling (base n : ℕ) (xs : List ℕ) (i : ℕ) (w w' : List ℕ) : Type 0 where
  pub cells : table w' base i ≡ take i xs
  pub only : Only (Cells base n) w w'

pub filling_none : (base n : ℕ) (xs w : List ℕ) → Filling base n xs 0 w w
unfolding table
filling_none base n xs w = record { cells = refl; only = only-refl }

pub filling_more : {base n i x : ℕ} {xs u w w' : List ℕ} (k : ℕ) → base + n ≤ length u → length xs ≡ n → i < n → Filling base n xs i u w →
    Put w base i x w' → x ≡ get_or xs i 0 → k ≡ i + 1 → Filling base n xs k u w'
filling_more {base} {n} {i} {x} {xs} {u} {w} {w'} k room l h f p e s =
    let r : base + i < length w = omega (arith, f.only.same) in
    record { cells = put_more p k r s ∙ rw (f.cells, e, s, add-one, take-suc xs i 0 (omega arith)); only = cells-put f.only p h }

pub filling_all : {base n i : ℕ} {xs u w : List ℕ} → length xs ≡ n → i ≤ n → n ≤ i → Filling base n xs i u w → Filled base n xs u w
filling_all {base} {n} {i} {xs} {u} {w} l h g f =
    let e : i ≡ n = omega arith in
    record { cells = rw e at (f.cells ∙ take_all i xs (omega arith)); only = f.only }

pub replicate_at : (n i x : ℕ) → i < n → x ≡ get_or (replicate n x) i 0
replicate_at n i x h = sym (get_or-replicate n i x 0 h)

-- a table that has been filled
pub filled_at : {base n : ℕ} {xs w w' : List ℕ} (i : ℕ) → Filled base n xs w w' → i < n → get_or w' (base + i) 0 ≡ get_or xs i 0
filled_at {base} {n} {xs} {w} {w'} i f h = sym (table_at w' base n i h) ∙ ap (λ (l : List ℕ). get_or l i 0) f.cells

-- a table at the start of a lent list, which is written over its first part
pub filled_over : {n : ℕ} {xs w w' : List ℕ} → Filled 0 n xs w w' → length xs ≡ n → n ≤ length w → w' ≡ over xs w
unfolding table
filled_over {n} {xs} {w} {w'} f l h =
    let rest = length w - n in
    let kept : take rest (drop n w') ≡ take rest (drop n w) = only-table n rest f.only (λ i k c. let b = c.below in omega arith) in
    let whole : drop n w' ≡ drop n w =
    sym (take_all rest (drop n w') (rw length-drop (omega (arith, f.only.same)))) ∙ kept ∙ take_all rest (drop n w) (rw length-drop (omega arith)) in
    sym (take-append-drop n w') ∙ rw (f.cells, whole, l)

-- a table lent as a part of the work area, from base to e
pub part_table : (w : List ℕ) (base n e : ℕ) → e ≡ base + n → take (e - base) (drop base w) ≡ table w base n
unfolding table
part_table w base n e h = let k : e - base ≡ n = omega arith in rw k

pub part_filled : (w : List ℕ) (base n e : ℕ) (ys : List ℕ) → e ≡ base + n → base + n ≤ length w → length ys ≡ n →
    Filled base n ys w (take base w ++ (ys ++ drop (e - base) (drop base w)))
unfolding table
part_filled w base n e ys h room l =
    let b : length (take base w) ≡ base = length-take-le base w (omega arith) in
    let k : e - base ≡ n = omega arith in
    let m : length (mid_of base (e - base) w) ≡ e - base = mid_len base e w (omega arith) in
    record {
      cells = rw (drop_at (take base w) (ys ++ drop (e - base) (drop base w)) base b, take_at ys (drop (e - base) (drop base w)) n l);
      only =
          cells_outside (same_len_mid base (e - base) w ys (omega arith)) (take_put base (e - base) w ys (omega arith))
          (rw (← h) (drop_put base e w ys (omega arith) (omega arith) (omega arith)));
    }

-- a table filled with 0, as a part of the work area
pub part_cleared : (w : List ℕ) (base n : ℕ) (ys : List ℕ) → base + n ≤ length w → ys ≡ replicate (length (mid_of base (base + n - base) w)) 0 →
    Filled base n (replicate n 0) w (put_mid base (base + n - base) w ys)
part_cleared w base n ys h e =
    let l : length (mid_of base (base + n - base) w) ≡ n = mid_len base (base + n) w h ∙ (omega arith) in
    let f : ys ≡ replicate n 0 = rw l at e in
    rw (← f) (part_filled w base n (base + n) ys refl h (rw (f, length-replicate)))
