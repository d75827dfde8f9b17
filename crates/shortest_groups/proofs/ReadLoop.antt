-- The best order, read forward off the table of groups.
--   chosen w k, padded xs == the best order of k places; an order in ten cells, with 0 past its end
--   read_start            == no place is laid, and the start stands behind the last
--   read_group            == the group is one of the table
--   next, next-..         == the next place: the order goes on with it, and it is not in the group
--   read_more             == it is laid
--   read_ordered          == what the search gives, from the filled table
use mathlib.Core.Path.{◌≡◌, refl, sym, ap, ◌∙◌}
use mathlib.Core.List.{List, [], ◌∷◌, ◌++◌}
use Prim.Native.Nat.{ℕ, suc, ◌+◌, ◌^◌, ◌<◌}
use native.Mathlib.Numerals.{add-one}
use native.Mathlib.Omega.{arith}
use lib.ListN.{length, get_or, take, drop, set, replicate}
use lib.Pow.{pow_pos, pow_mono}
use lib.Seq.{take-suc, drop-cons, length-take-le}
use Rattle.std.specs.Prelude.{Option, Some}
use Rattle.words.specs.Lists.{up_from, over, head_or, tail_of}
use Rattle.words.proofs.Buffers.{over-set}
use Rattle.words.proofs.Members.{In}
use Rattle.words.proofs.Runs.{length-up_from}
use Rattle.trays.specs.Limits.{max_shortest}
use Rattle.shortest.specs.Orders.{without}
use Rattle.shortest.specs.Steps.Choosing.{choose}
use Rattle.shortest.proofs.Without.{without-length}
use Rattle.shortest.proofs.Places.{choose-length}
use Rattle.shortest_groups.specs.declared.Choice.{Choice}
use Rattle.shortest_groups.specs.Groups.{pairs_of, Ordered}
use Rattle.shortest_groups.specs.Steps.Marks.{bit, rest_of}
use Rattle.shortest_groups.specs.Steps.NextPlace.{cell_of, value_of, place_of, Seeking}
use Rattle.shortest_groups.specs.Steps.Working.{Begun, Filling, Reading}
use Rattle.shortest_groups.proofs.BestPlace.{choose-step}
use Rattle.shortest_groups.proofs.GroupMarks.{in_rest, rest_none, mark_rest, mark-below}
use Rattle.shortest_groups.proofs.Pairs.{pairs_same}
use Rattle.shortest_groups.proofs.Worked.{worked_right}

abbrev chosen : List ℕ → ℕ → List ℕ
chosen w k = choose (pairs_of w) k max_shortest (up_from 0 k)

abbrev padded : List ℕ → List ℕ
padded xs = over xs (replicate max_shortest 0)

pub read_start : (w : List ℕ) (k : ℕ) → Reading w k 0 0 max_shortest (replicate max_shortest 0)
read_start w k =
    let none : rest_of 0 k ≡ up_from 0 k = rest_none k in
    let all : length (rest_of 0 k) ≡ k = ap length none ∙ length-up_from 0 k in
    record {
      group = pow_pos k;
      row = omega arith;
      left = omega arith;
      behind = rw (all, none);
      order_is = refl;
    }

module _ {w r : List ℕ} {k i g a : ℕ} (B : Begun w k 0 0) (R : Reading w k i g a r) where
  pub read_group : g < 2 ^ max_shortest
  read_group = omega (arith, R.group, pow_mono B.paired.few)

  module _ (found : Option Choice) (c : Choice) (l : i < k) (s : Seeking w g a k (value_of found) (place_of found)) (o : found ≡ Some c) where
    abbrev which : ℕ
    which = c.place

    -- the order goes on with the place that is found
    next :
        (choose (pairs_of w) (length (rest_of g k)) a (rest_of g k)
        ≡ which ∷ choose (pairs_of w) (length (without which (rest_of g k))) which (without which (rest_of g k)))
        × In which (rest_of g k)
    next =
        choose-step (pairs_of w) a (λ j. cell_of w (g + 2 ^ j) j) (rest_of g k) which (omega (arith, R.left))
        (worked_right (pairs_of w) k (cell_of w) 0 0 g B.worked R.group (omega arith)) (sym (ap place_of o) ∙ s.which_is)

    next_below : which < k
    next_below = (in_rest g k next.1).0

    pub next_place : which < max_shortest
    next_place = omega (arith, next_below, B.paired.few)

    pub next_free : bit g which ≡ 0
    next_free = (in_rest g k next.1).1

    pub read_more : (h : ℕ) → h ≡ g + 2 ^ which → Reading w k (i + 1) h which (set r i which)
    read_more h f =
        let C = chosen w k in
        let size : length C ≡ k = choose-length (pairs_of w) k max_shortest (up_from 0 k) in
        let m : i + 1 ≡ suc i = add-one i in
        let rest : rest_of h k ≡ without which (rest_of g k) = rw f (mark_rest g which k next_free) in
        let cut : get_or C i 0 ∷ drop (suc i) C ≡ which ∷ choose (pairs_of w) (length (rest_of h k)) which (rest_of h k) =
        sym (drop-cons C i 0 (omega arith)) ∙ R.behind ∙ next.0 ∙ rw rest in
        let longer : take i C ++ (which ∷ []) ≡ take (suc i) C =
        sym (take-suc C i 0 (omega arith) ∙ ap (λ z. take i C ++ (z ∷ [])) (ap (head_or 0) cut)) in
        record {
          group = rw f (mark-below k g which R.group next_below next_free);
          row = omega (arith, next_place);
          left = omega (arith, R.left, ap length rest, without-length which (rest_of g k) next.1);
          behind = rw m (ap tail_of cut);
          order_is =
              rw (R.order_is, m)
              (over-set 0 (take i C) (replicate max_shortest 0) i which (length-take-le i C (omega arith)) (omega (arith, B.paired.few))
              ∙ ap padded longer);
        }

-- the pairs are still those that were given
pub read_ordered :
    {w w' r : List ℕ} {k : ℕ} → Filling w k 0 0 w' → r ≡ padded (chosen w' k) → Ordered w k w' r
read_ordered {w} {w'} {r} {k} f e =
    record {
      size = f.size;
      order_is = e ∙ ap (λ v. padded (choose v k max_shortest (up_from 0 k))) (pairs_same w w' f.pairs);
    }
