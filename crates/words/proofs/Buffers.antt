-- Lent buffers, written from the front on: `over xs old`.
--   over-set   == one element more
--   over_part  == the part behind what is written, written over in turn
--   rest_is    == the part of a list from n on, as it is lent
--   over_mid   == that part of a buffer is lent, and comes back written over
use mathlib.Core.Path.{◌≡◌, sym}
use mathlib.Core.List.{List, [], ◌∷◌, ◌++◌, append_assoc, append-nil}
use Prim.Native.Nat.{ℕ, suc, ◌-◌, ◌≤◌, ◌<◌}
use borrow.Rule.Slice.PartMut.{put_mid}
use native.Mathlib.Numerals.{add-one}
use native.Mathlib.Omega.{arith}
use lib.ListN.{length, get_or, take, drop, set, length-append, length-drop, drop_of_length-le}
use lib.Seq.{drop-cons, append_snoc, take_all, set_at, take_at, drop_at, drop-drop}
use Rattle.words.specs.Lists.{over}

module _ {A : Type 0} where
  pub length_over : (xs old : List A) → length xs ≤ length old → length (over xs old) ≡ length old
  length_over xs old h = rw (length-append, length-drop) (omega arith)

  pub over-set : (d : A) (xs old : List A) (n : ℕ) (x : A) → length xs ≡ n → n < length old → set (over xs old) n x ≡ over (xs ++ (x ∷ [])) old
  over-set d xs old n x e h =
      rw (e, drop-cons old n d, set_at xs (get_or old n d) (drop (suc n) old) x n e, length-append, e, add-one)
      (sym (append_snoc xs x (drop (suc n) old)))

  pub over_part : (xs ys old : List A) (n : ℕ) → length xs ≡ n → take n (over xs old) ++ over ys (drop n (over xs old)) ≡ over (xs ++ ys) old
  over_part xs ys old n e =
      rw (take_at xs (drop (length xs) old) n e, drop_at xs (drop (length xs) old) n e, drop-drop, length-append)
      (sym (append_assoc xs ys _))

pub rest_is : (l : List ℕ) (n : ℕ) → take (length l - n) (drop n l) ≡ drop n l
rest_is l n = take_all (length l - n) (drop n l) (rw length-drop (omega arith))

pub over_mid : (xs ys old z p : List ℕ) (n : ℕ) → length xs ≡ n → z ≡ over xs old
    → p ≡ over ys (take (length z - n) (drop n z)) → put_mid n (length z - n) z p ≡ over (xs ++ ys) old
over_mid xs ys old z p n e w f =
    let d : length (drop n z) ≤ length z - n = rw length-drop (omega arith) in
    rw (f, rest_is z n, drop_of_length-le (drop n z) d, append-nil, w) (over_part xs ys old n e)
