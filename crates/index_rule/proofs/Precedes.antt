-- The order of slip numbers by letters, and the index, which is all of them in that order.
--   precedes ss     == a strict total order: the lexicographic step from the order of strings to that of numbers
--   order_sorts     == numbers sorted by it
--   index-..        == the index ascends, has the numbers of the slips and no others, and as many
use mathlib.Core.Path.{◌≡◌, ◌∙◌}
use mathlib.Core.Bool.{false}
use mathlib.Core.List.{List}
use Prim.Native.Nat.{ℕ, ◌≤◌, ◌<◌}
use native.Mathlib.Omega.{arith}
use lib.Dec.{ltb}
use lib.ListN.{length}
use Rattle.words.specs.Lists.{in_order}
use Rattle.words.proofs.Tests.{not_both}
use Rattle.words.proofs.Orders.{up, strings, lex_irr, lex_tr, lex_con}
use Rattle.words.proofs.Members.{In, Asc, Less, Sorts, in_up_from, up_from_in, asc_up_from, in_order_sorts}
use Rattle.words.proofs.Distinct.{Distinct, asc_distinct, in_order-length}
use Rattle.words.proofs.Runs.{length-up_from}
use Rattle.trays.specs.Slips.{slip, numbers}
use Rattle.index_rule.specs.Index.{precedes, index_of}

module _ (ss : List (List ℕ)) where
  pub precedes_irr : (i : ℕ) → precedes ss i i ≡ false
  precedes_irr i = lex_irr strings (slip ss i) (ltb i i) (up.irr i)

  pub precedes-not : (i : ℕ) → Less (precedes ss) i i → ⊥
  precedes-not i h = not_both (precedes ss i i) h (precedes_irr i)

  pub precedes_tr : (i j k : ℕ) → Less (precedes ss) i j → Less (precedes ss) j k → Less (precedes ss) i k
  precedes_tr i j k = lex_tr strings (slip ss i) (slip ss j) (slip ss k) (ltb i j) (ltb j k) (ltb i k) (up.tr i j k)

  pub precedes_con : (i k : ℕ) → precedes ss i k ≡ false → precedes ss k i ≡ false → i ≡ k
  precedes_con i k e f = (lex_con strings (slip ss i) (slip ss k) (ltb i k) (ltb k i) (up.con i k) e f).1

  pub order_sorts : (M : List ℕ) → Sorts (Less (precedes ss)) M (in_order (precedes ss) M)
  order_sorts M = in_order_sorts (precedes ss) precedes_tr precedes_con M

  pub order_length : (M : List ℕ) → Distinct M → length (in_order (precedes ss) M) ≡ length M
  order_length M d = in_order-length (precedes ss) precedes_irr precedes_tr precedes_con M d

  pub index_asc : Asc (Less (precedes ss)) (index_of ss)
  index_asc = (order_sorts (numbers ss)).asc

  pub index_real : (i : ℕ) → In i (index_of ss) → (1 ≤ i) × (i ≤ length ss)
  index_real i m = let r = in_up_from 1 (length ss) ((order_sorts (numbers ss)).back i m) in omega arith

  pub index_all : (i : ℕ) → 1 ≤ i → i ≤ length ss → In i (index_of ss)
  index_all i a b = (order_sorts (numbers ss)).into i (up_from_in 1 (length ss) i a (omega arith))

  pub numbers_distinct : Distinct (numbers ss)
  numbers_distinct = asc_distinct ◌<◌ (λ a h. omega arith) (numbers ss) (asc_up_from 1 (length ss))

  pub index_length : length (index_of ss) ≡ length ss
  index_length = order_length (numbers ss) numbers_distinct ∙ length-up_from 1 (length ss)
