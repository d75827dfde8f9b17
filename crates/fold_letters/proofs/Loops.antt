-- Letters filed one by one over the first part of a buffer.
--   filed_more, filed_all    == one letter more, and all of them, from another buffer
--   placed_more, placed_all  == the same in place: the letters not yet filed are as they were
use mathlib.Core.Path.{◌≡◌, ◌∙◌}
use mathlib.Core.List.{List, map, append-nil, map-append}
use Prim.Native.Nat.{ℕ, ◌+◌, ◌≤◌, ◌<◌}
use native.Mathlib.Numerals.{add-one}
use native.Mathlib.Omega.{arith}
use lib.ListN.{length, get_or, take, set, length-map, drop_of_length-le}
use lib.Seq.{drop-cons, get_or_at, take-suc, take_all, length-take-le}
use Rattle.words.specs.Lists.{over}
use Rattle.words.proofs.Buffers.{over-set}
use Rattle.fold_rule.specs.Folding.{fold}
use Rattle.fold_letters.specs.Steps.Entries.{Folds}

many : (from : List ℕ) (i : ℕ) → i ≤ length from → length (map fold (take i from)) ≡ i
many from i h = length-map (take i from) fold ∙ length-take-le i from h

-- x is the index into the table t of the letter to be filed
module _ (t : List ℕ) (f : Folds t) where
  pub filed_more : (from old to : List ℕ) (i x : ℕ) → i < length from → length from ≤ length old → x ≡ get_or from i 0 → x < 256
      → to ≡ over (map fold (take i from)) old → set to i (get_or t x 0) ≡ over (map fold (take (i + 1) from)) old
  filed_more from old to i x h l w b e =
      rw (f x b, w, add-one i, take-suc from i 0, map-append, e)
      (over-set 0 (map fold (take i from)) old i _ (many from i (omega arith)) (omega arith))

  pub placed_more : (old text : List ℕ) (i x : ℕ) → length text ≡ length old → text ≡ over (map fold (take i old)) old → i < length text
      → x ≡ get_or text i 0 → x < 256 → set text i (get_or t x 0) ≡ over (map fold (take (i + 1) old)) old
  placed_more old text i x n e h w b = filed_more old old text i x (omega arith) (omega arith) (w ∙ ahead) b e
    where
      ahead : get_or text i 0 ≡ get_or old i 0
      ahead =
          let m : length (map fold (take i old)) ≡ i = many old i (omega arith) in
          rw (e, m, drop-cons old i 0 (omega arith)) (get_or_at (map fold (take i old)) (get_or old i 0) _ 0 i m)

pub filed_all : (from old to : List ℕ) (i : ℕ) → length from ≤ i → to ≡ over (map fold (take i from)) old → to ≡ over (map fold from) old
filed_all from old to i h e = e ∙ rw (take_all i from)

pub placed_all : (old text : List ℕ) (i : ℕ) → length text ≡ length old → text ≡ over (map fold (take i old)) old → length text ≤ i → text ≡ map fold old
placed_all old text i n e h =
    filed_all old old text i (omega arith) e
    ∙ rw (length-map old fold, drop_of_length-le old {i = length old} (omega arith)) (append-nil (map fold old))
