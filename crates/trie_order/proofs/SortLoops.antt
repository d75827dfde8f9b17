-- The sort: turning the first cell to behind others, and putting each member into its place among those behind it.
--   sorting lt m c   == c with the members from place m on in order
-- Insertion of the first member at its rank is `insert`, by insert_rank; so a turn of the loop is one clause of `in_order`.
use mathlib.Core.Path.{◌≡◌, refl, sym, ◌∙◌}
use mathlib.Core.Bool.{Bool}
use mathlib.Core.List.Memᴰ
use mathlib.Core.List.{List, [], ◌∷◌, ◌++◌, append-nil}
use Prim.Native.Nat.{ℕ, zero, suc, ◌+◌, ◌-◌, ◌≤◌, ◌<◌}
use native.Mathlib.Numerals.{add-one, sub-one}
use native.Mathlib.Omega.{arith}
use lib.ListN.{length, get_or, take, drop, length-append, length-take, length-drop, drop_of_length-le}
use lib.Seq.{take_all, take-suc, drop-cons, append_snoc, drop_at, take_at, length-take-le}
use Rattle.words.specs.Lists.{those, in_order, tail_of}
use Rattle.words.proofs.Members.{In, Less, Sorts, by_in}
use Rattle.words.proofs.Distinct.{those-length}
use Rattle.trays.specs.Slips.{slip, slips_of}
use Rattle.tables.specs.Tables.{table, Filled}
use Rattle.tables.proofs.Tables.{part_table, part_filled, table-length}
use Rattle.trie_order.specs.declared.Bound.TheVariants.{Number}
use Rattle.trie_order.specs.Order.{precedes, below, rank_of, Distinct, Sortable, Rankable}
use Rattle.trie_order.specs.Steps.Steps.{lay_behind, insert_first, Insertable}
use Rattle.trie_order.proofs.Inserting.{insert_rank, less-falls}
use Rattle.trie_order.proofs.Precedes.{precedes_irr, precedes_tr, precedes_con, order_sorts, order_length}

-- the first cell, turned to behind the next k
turned : (k : ℕ) (c d : List ℕ) → k < length c → d ≡ drop 1 (take (k + 1) c) ++ take 1 (take (k + 1) c) → d ++ drop (k + 1) c ≡ lay_behind k c
turned k [] d h e = absurd (omega arith)
turned k (x ∷ xs) d h e =
    let f : drop 1 (take (k + 1) (x ∷ xs)) ++ take 1 (take (k + 1) (x ∷ xs)) ≡ take k xs ++ (x ∷ []) = rw add-one in
    rw (e, f, add-one, append_snoc)

-- the first member, put among the others at its rank
abbrev others : List ℕ → List ℕ
others c = take (length c - 1) (drop 1 c)

others_tail : (c : List ℕ) → others c ≡ tail_of c
others_tail [] = refl
others_tail (x ∷ xs) = rw sub-one (take_all (length xs) xs (omega arith))

module _ (s es : List ℕ) where
  abbrev lt : ℕ → ℕ → Bool
  lt = precedes (slips_of s es)

  tail_rankable : (x : ℕ) (xs : List ℕ) → Insertable s es (x ∷ xs) → Rankable s es xs (slip (slips_of s es) x) (Number x)
  tail_rankable x xs g =
      let ss = slips_of s es in
      record {
        members = record { accepted = g.members.accepted; within = record { each = λ i m. g.members.within.each i (Memᴰ.tail m) } };
        falling = less-falls lt (precedes_irr ss) (precedes_tr ss) (precedes_con ss) x xs g.ordered;
      }

  module _ (c : List ℕ) (m : ℕ) (t : List ℕ) (g : Insertable s es c) (e : m ≡ get_or c 0 0) (q : t ≡ slip (slips_of s es) m) where
    pub first_rankable : Rankable s es (others c) t (Number m)
    first_rankable = go c g g.some e
      where
        go : (c : List ℕ) → Insertable s es c → 0 < length c → m ≡ get_or c 0 0 → Rankable s es (others c) t (Number m)
        go [] g h e = absurd (omega arith)
        go (x ∷ xs) g h e = rw (others_tail (x ∷ xs), q, e) (tail_rankable x xs g)

    module _ (k : ℕ) (r : k ≡ rank_of (slips_of s es) (others c) t (Number m)) where
      pub first_rank : k < length c
      first_rank = omega (
        arith,
        g.some,
        those-length (λ i. below (Number m) t (slip (slips_of s es) i) i) (others c),
        length-take (length c - 1) (drop 1 c),
        length-drop 1 c,
      )

      pub first_inserted : (d : List ℕ) → d ≡ drop 1 (take (k + 1) c) ++ take 1 (take (k + 1) c) → d ++ drop (k + 1) c ≡ insert_first lt c
      first_inserted d w = turned k c d first_rank w ∙ go c g g.some e r
        where
          go : (c : List ℕ) → Insertable s es c → 0 < length c → m ≡ get_or c 0 0 → k ≡ rank_of (slips_of s es) (others c) t (Number m) →
              lay_behind k c ≡ insert_first lt c
          go [] g h e r = absurd (omega arith)
          go (x ∷ xs) g h e r =
              let ss = slips_of s es in
              let n : k ≡ length (those (λ y. lt y x) xs) = rw (others_tail (x ∷ xs), q, e) at r in
              rw n (sym (insert_rank lt (precedes_irr ss) (precedes_tr ss) (precedes_con ss) x xs g.ordered g.fresh))

-- one member more in order
abbrev pub sorting : (ℕ → ℕ → Bool) → ℕ → List ℕ → List ℕ
sorting lt m c = take m c ++ in_order lt (drop m c)

distinct_drop : (k : ℕ) (xs : List ℕ) → Distinct xs → Distinct (drop k xs)
distinct_drop zero xs d = d
distinct_drop (suc k) [] d = d
distinct_drop (suc k) (x ∷ xs) d = distinct_drop k xs d.1

in_drop : {y : ℕ} (k : ℕ) (xs : List ℕ) → In y (drop k xs) → In y xs
in_drop zero xs m = m
in_drop (suc k) [] m = m
in_drop (suc k) (x ∷ xs) m = Memᴰ.tail (in_drop k xs m)

-- a list cut where a part of it begins
module _ (xs ys c : List ℕ) (j : ℕ) (e : c ≡ xs ++ ys) (l : length xs ≡ j) where
  cut-drop : drop j c ≡ ys
  cut-drop = rw e (drop_at xs ys j l)

  cut_size : length c ≡ j + length ys
  cut_size = rw (e, length-append, l)

  cut_part : take (length c - j) (drop j c) ≡ ys
  cut_part = rw cut-drop (take_all (length c - j) ys (omega (arith, cut_size)))

  cut_back : (zs : List ℕ) → take j c ++ (zs ++ drop (length c - j) (drop j c)) ≡ xs ++ zs
  cut_back zs =
      let f : take j c ≡ xs = rw e (take_at xs ys j l) in
      let n : length ys ≤ length c - j = omega (arith, cut_size) in
      let b : drop (length c - j) (drop j c) ≡ [] = rw cut-drop (drop_of_length-le ys n) in
      rw (f, b, append-nil)

module _ (s es c₀ c : List ℕ) (m j : ℕ) (S : Sortable s es c₀) (u : 0 < m) (v : m ≤ length c₀) (w : c ≡ sorting (precedes (slips_of s es)) m c₀)
    (q : j ≡ m - 1) where
  abbrev by : ℕ → ℕ → Bool
  by = precedes (slips_of s es)

  here : ℕ
  here = get_or c₀ j 0

  rest : List ℕ
  rest = in_order by (drop (suc j) c₀)

  front : length (take j c₀) ≡ j
  front = length-take-le j c₀ (omega arith)

  split : c ≡ take j c₀ ++ (here ∷ rest)
  unfolding here rest
  split =
      let n : m ≡ suc j = omega arith in
      w ∙ rw (n, take-suc c₀ j 0 (omega arith), append_snoc)

  whole : drop j c₀ ≡ here ∷ drop (suc j) c₀
  unfolding here
  whole = drop-cons c₀ j 0 (omega arith)

  sorted : Sorts (Less by) (drop (suc j) c₀) rest
  unfolding rest
  sorted = order_sorts (slips_of s es) (drop (suc j) c₀)

  pub sort_insertable : Insertable s es (take (length c - j) (drop j c))
  sort_insertable =
      rw (cut_part (take j c₀) (here ∷ rest) c j split front)
      (record {
        some = omega arith;
        members = record {
          accepted = S.members.accepted;
          within =
              record { each = λ i n. S.members.within.each i (in_drop j c₀ (rw whole (by_in n Memᴰ.head (λ k. Memᴰ.tail (sorted.back i k))))) };
        };
        fresh = λ n. (rw whole at (distinct_drop j c₀ S.distinct)).0 (sorted.back here n);
        ordered = sorted.asc;
      })

  pub sort_more : (d : List ℕ) → d ≡ insert_first by (take (length c - j) (drop j c)) → take j c ++ (d ++ drop (length c - j) (drop j c)) ≡ sorting by j c₀
  unfolding here rest
  sort_more d e =
      let k : d ≡ in_order by (drop j c₀) = e ∙ rw (cut_part (take j c₀) (here ∷ rest) c j split front, whole) in
      rw k (cut_back (take j c₀) (here ∷ rest) c j split front (in_order by (drop j c₀)))

-- the members as a table of the work area, lent from base to e
module _ (s es w : List ℕ) (base n e : ℕ) (S : Sortable s es (table w base n)) (q : e ≡ base + n) where
  pub part_sortable : Sortable s es (take (e - base) (drop base w))
  part_sortable = rw (part_table w base n e q) S

  pub part_sorted : (ys : List ℕ) → base + n ≤ length w → ys ≡ in_order (precedes (slips_of s es)) (take (e - base) (drop base w)) →
      Filled base n (in_order (precedes (slips_of s es)) (table w base n)) w (take base w ++ (ys ++ drop (e - base) (drop base w)))
  part_sorted ys h f =
      let ss = slips_of s es in
      let g : ys ≡ in_order (precedes ss) (table w base n) = rw (part_table w base n e q) at f in
      let l : length ys ≡ n = rw g (order_length ss (table w base n) S.distinct ∙ table-length w base n h) in
      rw (← g) (part_filled w base n e ys q h l)
