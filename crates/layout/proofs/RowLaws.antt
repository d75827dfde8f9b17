-- The nodes by rows: of d letters, of one letter fewer, .. of one letter, each row by number.
--   row_num       == a number of the row of d letters is that of a node of d letters
--   row_before    == of two nodes of a row the one with the lower number has the smaller string
--   row-length    == the strings of a row have d letters; rows-length == those of the rows from d on downwards at most d
--   row_asc       == a row ascends by the order of visits; rows_asc == so do the rows
--   rows_nodes    == the walk may go over the rows: they have every beginning
-- Numbers ascend by length, then byte order; the table of levels parts them by length. Within a row the order of numbers is byte order.
use mathlib.Core.Path.{◌≡◌, refl, sym, ap, ◌∙◌}
use mathlib.Core.Bool.{true}
use mathlib.Core.Logic.{inl, inr}
use mathlib.Core.List.Memᴰ
use mathlib.Core.List.{List, [], ◌∷◌, map}
use Prim.Native.Nat.{ℕ, zero, suc, ◌-◌, ◌≤◌, ◌<◌}
use native.Mathlib.Decide.{dec_lt, ℕ_discrete}
use native.Mathlib.Omega.{arith}
use lib.ListN.{length}
use borrow.Author.Tests.{ltb-true, lt-ltb}
use Rattle.words.specs.Lists.{up_from}
use Rattle.words.specs.Words.{before}
use Rattle.words.proofs.Members.{In, Asc, Less, asc_up_from, in_up_from, up_from_in, asc_append}
use Rattle.words.proofs.Orders.{up, down, lex_first, lex_then, lex_cases}
use Rattle.words.proofs.Picks.{asc_get_or}
use Rattle.greedy.specs.Walk.{sooner}
use Rattle.greedy.proofs.Nodes.{Nodes}
use Rattle.matching.specs.Steps.Nodes.{lower, nodes_of, string, Num}
use Rattle.matching.proofs.Endings.{slip-some}
use Rattle.matching.proofs.NodeLaws.{nodes_numbered, node_of}
use Rattle.layout.specs.Tables.{patterns, LevelIs}
use Rattle.layout.specs.Rows.{nodes_at, rows}

asc_map : {A B : Type 0} (R : A → A → Type 0) (S : B → B → Type 0) (f : A → B) (xs : List A) → Asc R xs
    → ((a b : A) → In a xs → In b xs → R a b → S (f a) (f b)) → Asc S (map f xs)
asc_map R S f [] p h = tt
asc_map R S f (x ∷ xs) p h = (
  (λ y m. let (a, i, e) = Memᴰ.of_map f xs m in rw (← e) (h x a (Memᴰ.head refl) (Memᴰ.tail i) (p.0 a i))),
  asc_map R S f xs p.1 (λ a b i k. h a b (Memᴰ.tail i) (Memᴰ.tail k)),
)

module _ (ps : List (List ℕ)) (level : ℕ → ℕ) (top : ℕ) (L : LevelIs ps level top) where
  pub row_num : (d v : ℕ) → 1 ≤ d → d ≤ top → level d ≤ v → v < level (suc d) → Num ps v × (length (string ps v) ≡ d)
  row_num d v h l a b =
      let n : Num ps v = record { some = omega (arith, L.some d h (omega arith)); inside = omega (arith, L.some (suc d) (omega arith) (omega arith)) } in
      let low = L.back d v h (omega arith) n a in
      let high : length (string ps v) ≤ d =
      elim (dec_lt d (length (string ps v))) [
        | yes q ↦ absurd (omega (arith, L.from (suc d) v (omega arith) (omega arith) n q))
        | no q ↦ omega arith
      ] in
      (n, omega arith)

  in_row : (d v : ℕ) → In v (up_from (level d) (level (suc d) - level d)) → (level d ≤ v) × (v < level (suc d))
  in_row d v m = let r = in_up_from (level d) (level (suc d) - level d) m in (r.0, omega arith)

  pub row-length : (d : ℕ) (x : List ℕ) → 1 ≤ d → d ≤ top → In x (nodes_at ps level d) → length x ≡ d
  row-length d x h l m =
      let (v, i, e) = Memᴰ.of_map (string ps) (up_from (level d) (level (suc d) - level d)) m in
      let (a, b) = in_row d v i in
      ap length (sym e) ∙ (row_num d v h l a b).1

  pub row_before : (d a b : ℕ) → 1 ≤ d → d ≤ top → level d ≤ a → a < b → b < level (suc d)
      → (length (string ps a) ≡ length (string ps b)) × (before (string ps a) (string ps b) ≡ true)
  row_before d a b h l low q high =
      let (m, e) = row_num d a h l low (omega arith) in
      let (n, f) = row_num d b h l (omega arith) high in
      let x = string ps a in
      let y = string ps b in
      elim (lex_cases up (length x) (length y) (before x y) (asc_get_or [] (Less lower) (nodes_of ps) a b (nodes_numbered ps).asc q n.inside)) [
        | inl t ↦ absurd (omega (arith, ltb-true (length x) (length y) t))
        | inr t ↦ t
      ]

  row_asc : (d : ℕ) → 1 ≤ d → d ≤ top → Asc (Less sooner) (nodes_at ps level d)
  row_asc d h l =
      asc_map ◌<◌ (Less sooner) (string ps) (up_from (level d) (level (suc d) - level d)) (asc_up_from (level d) (level (suc d) - level d))
      (λ a b i k q.
      let (e, t) = row_before d a b h l (in_row d a i).0 q (in_row d b k).1 in
      lex_then down (length (string ps a)) (length (string ps b)) (before (string ps a) (string ps b)) e t)

  pub rows-length : (d : ℕ) (x : List ℕ) → d ≤ top → In x (rows ps level d) → (1 ≤ length x) × (length x ≤ d)
  rows-length zero x l m = absurd (Memᴰ.not-nil m)
  rows-length (suc d) x l m =
      elim (Memᴰ.append_cases (nodes_at ps level (suc d)) m) [
        | inl i ↦ let e = row-length (suc d) x (omega arith) l i in (omega arith, omega arith)
        | inr i ↦ let r = rows-length d x (omega arith) i in (r.0, omega arith)
      ]

  rows_asc : (d : ℕ) → d ≤ top → Asc (Less sooner) (rows ps level d)
  rows_asc zero l = tt
  rows_asc (suc d) l =
      asc_append (Less sooner) (nodes_at ps level (suc d)) (rows ps level d) (row_asc (suc d) (omega arith) l) (rows_asc d (omega arith))
      (λ x y i k.
      lex_first down (length x) (length y) (before x y)
      (lt-ltb (length y) (length x) (omega (arith, row-length (suc d) x (omega arith) l i, rows-length d y (omega arith) k))))

  rows_in : (d v : ℕ) → d ≤ top → Num ps v → 1 ≤ length (string ps v) → length (string ps v) ≤ d → In (string ps v) (rows ps level d)
  rows_in zero v l n h k = absurd (omega arith)
  rows_in (suc d) v l n h k =
      elim (ℕ_discrete (length (string ps v)) (suc d)) [
        | yes e ↦
            let low = L.from (suc d) v (omega arith) (omega arith) n (omega arith) in
            let high : v < level (suc (suc d)) =
            elim (dec_lt v (level (suc (suc d)))) [
              | yes q ↦ q
              | no q ↦ absurd (omega (arith, L.back (suc (suc d)) v (omega arith) (omega arith) n (omega arith)))
            ] in
            Memᴰ.append_left (rows ps level d) (Memᴰ.map (string ps) (up_from_in (level (suc d)) (level (suc (suc d)) - level (suc d)) v low (omega arith)))
        | no ne ↦ Memᴰ.append_right (nodes_at ps level (suc d)) (rows_in d v (omega arith) n h (omega arith))
      ]

module _ (ss : List (List ℕ)) (M K : List ℕ) (sub : (k : ℕ) → In k K → In k M) (level : ℕ → ℕ) (top : ℕ) (L : LevelIs (patterns ss M) level top) where
  pub rows_nodes : Nodes ss K (rows (patterns ss M) level top)
  rows_nodes =
      record {
        asc = rows_asc (patterns ss M) level top L top (omega arith);
        some = λ w m. (rows-length (patterns ss M) level top L top w (omega arith) m).0;
        all = λ w k i h b.
            let (v, n, e) = node_of (patterns ss M) w h (slip-some ss M w (sub k i) b) in
            Memᴰ.cast (sym e) (rows_in (patterns ss M) level top L top v (omega arith) n (rw e h) (L.all v n));
      }
