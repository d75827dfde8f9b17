-- The table of common prefixes, from the order of the members.
--   commons-..  == its length and its entries
--   common-..   == one entry: the first, a later one
--   fill-..     == one turn of the loop that fills the table, which lies behind the order in the work area
-- An entry tells of a member and the one before it, so it is read off two neighbours of the order; the stores are all behind the order.
use mathlib.Core.Path.{◌≡◌, refl, sym, ap, ◌∙◌}
use mathlib.Core.List.{List, [], ◌∷◌}
use Prim.Native.Nat.{ℕ, zero, suc, ◌+◌, ◌-◌, ◌≤◌, ◌<◌}
use native.Mathlib.Numerals.{sub-one}
use native.Mathlib.Omega.{arith}
use lib.ListN.{length, get_or, take, drop}
use Rattle.words.specs.Words.{common}
use Rattle.words.proofs.CommonPrefix.{common_at_most}
use Rattle.trays.specs.Slips.{slip, slips_of}
use Rattle.trays.proofs.Spans.{accepted_spanned}
use Rattle.tables.specs.Tables.{Put, table}
use Rattle.tables.proofs.Tables.{Filling, filling_more, cells-below, part_table, table-length}
use Rattle.trie_order.specs.Order.{commons, CommonAt, Within, Members}
use Rattle.trie_order.proofs.RankLoop.{member_least, member_most}

pub commons-length : (ss : List (List ℕ)) (p : ℕ) (M : List ℕ) → length (commons ss p M) ≡ length M
commons-length ss p [] = refl
commons-length ss p (i ∷ M) = ap suc (commons-length ss i M)

pub commons_at : (ss : List (List ℕ)) (p : ℕ) (M : List ℕ) (j : ℕ) → j < length M →
    get_or (commons ss p M) j 0 ≡ common (slip ss (get_or (p ∷ M) j 0)) (slip ss (get_or M j 0))
commons_at ss p [] j h = absurd (omega arith)
commons_at ss p (i ∷ M) zero h = refl
commons_at ss p (i ∷ M) (suc j) h = commons_at ss i M j (omega arith)

pub common-first : (ss : List (List ℕ)) (M : List ℕ) (i : ℕ) → i ≡ 0 → CommonAt ss M i 0
common-first ss M i e = record { is = rw e (go M); small = omega arith }
  where
    go : (M : List ℕ) → 0 ≡ get_or (commons ss 0 M) 0 0
    go [] = refl
    go (i ∷ M) = refl

before_at : (p i : ℕ) (M : List ℕ) → (i ≡ 0 → ⊥) → get_or (p ∷ M) i 0 ≡ get_or M (i - 1) 0
before_at p zero M n = absurd (n refl)
before_at p (suc i) M n = rw sub-one

-- the member before
module _ (n : ℕ) (M : List ℕ) (i m : ℕ) (t : Within n M) (h : i < length M) (o : i ≡ 0 → ⊥) (e : m ≡ get_or M (i - 1) 0) where
  pub before_least : 1 ≤ m
  before_least = member_least n M (i - 1) m t (omega arith) e

  pub before-most : m ≤ n
  before-most = member_most n M (i - 1) m t (omega arith) e

pub common_next :
    (s es M : List ℕ) (i a b r : ℕ) (x y : List ℕ) → Members s es M → i < length M → (i ≡ 0 → ⊥) → a ≡ get_or M (i - 1) 0 → b ≡ get_or M i 0
    → x ≡ slip (slips_of s es) a → y ≡ slip (slips_of s es) b → r ≡ common x y → CommonAt (slips_of s es) M i r
common_next s es M i a b r x y o h n u v q w e =
    let ss = slips_of s es in
    let f : r ≡ common (slip ss a) (slip ss b) = rw (q, w) at e in
    record {
      is = f ∙ rw (u, v) (sym (rw (commons_at ss 0 M i h, before_at 0 i M n)));
      small =
          omega (
            arith,
            common_at_most (slip ss a) (slip ss b),
            (accepted_spanned s es o.accepted).short b (member_least (length es) M i b o.within h v)
                (member_most (length es) M i b o.within h v),
          );
    }

module _ (s es w₀ w : List ℕ) (order to n i e : ℕ) (o : Members s es (table w₀ order n)) (far : order + n ≤ to) (room : to + n ≤ length w₀)
    (q : e ≡ order + n) (f : Filling to n (commons (slips_of s es) 0 (table w₀ order n)) i w₀ w) where
  order_kept : take (e - order) (drop order w) ≡ table w₀ order n
  order_kept = part_table w order n e q ∙ cells-below order n f.only far

  pub fill_members : Members s es (take (e - order) (drop order w))
  fill_members = rw order_kept o

  pub fill_place : i < n → i < length (take (e - order) (drop order w))
  fill_place h = rw order_kept (omega (arith, table-length w₀ order n (omega arith)))

  pub fill_size : length (commons (slips_of s es) 0 (table w₀ order n)) ≡ n
  fill_size = commons-length (slips_of s es) 0 (table w₀ order n) ∙ table-length w₀ order n (omega arith)

  pub fill_more : (x : ℕ) (w' : List ℕ) (k : ℕ) → i < n → CommonAt (slips_of s es) (take (e - order) (drop order w)) i x → Put w to i x w' →
      k ≡ i + 1 → Filling to n (commons (slips_of s es) 0 (table w₀ order n)) k w₀ w'
  fill_more x w' k h c p g = filling_more k room fill_size h f p (rw order_kept at c.is) g
