-- What is claimed of each side, proved. The laws hold of any members that ascend from 1, and the slips of a side are such members.
use mathlib.Core.Path.{sym, subst}
use mathlib.Core.List.{List}
use Prim.Native.Nat.{ℕ}
use native.Mathlib.Omega.{arith}
use borrow.Author.Tests.{eq-eqb}
use lib.ListN.{length}
use Rattle.words.proofs.Members.{those_in, up_from_in}
use Rattle.trays.specs.Slips.{slips_of, only}
use Rattle.trays.specs.Sides.{side_of, of_side}
use Rattle.trays.proofs.SidedTrays.{sides_tell}
use Rattle.trays.proofs.WrittenSlips.{slips_written}
use Rattle.greedy.specs.Composing.{Composing, whole, sided, kept_of}
use Rattle.greedy.specs.Sides.{Alone}
use Rattle.greedy.proofs.Chosen.{Real, only-accepted}
use Rattle.greedy.proofs.SideLists.{slips_side}
use Rattle.greedy.proofs.Alone.{alone_of}
use Rattle.greedy.proofs.GreedyLegends.{greedy_of}
use Rattle.greedy.proofs.FewerJoins.{plain_fewer}
use Rattle.greedy.proofs.StopFree.{all_count}
use Rattle.greedy.proofs.TriedAlone.{tried_of}
use Rattle.shortest.specs.Sides.{AloneShortest}
use Rattle.shortest.proofs.Shortest.{shortest_of_lem}
use Rattle.shortest.proofs.ShortestAlone.{alone_shortest}
use Rattle.claims.specs.Sides.{SidesAlone, EachSide}

pub sides_alone : SidesAlone
sides_alone g s es cs A =
    let b : ℕ = g.side in
    let c : Composing = sided g cs (slips_of s es) in
    let os : List (List ℕ) = only (slips_of s es) (of_side cs b) in
    let R : Real (length (slips_of s es)) (of_side cs b) = slips_side s es cs b A.sides in
    let cut = sym (slips_written os) in
    record {
      accepted = only-accepted s es (of_side cs b) A.tray R;
      composes = subst (λ (xs : List (List ℕ)). Alone c (whole g xs)) cut (alone_of c R);
      shortest = subst (λ (xs : List (List ℕ)). AloneShortest c (whole g xs)) cut (alone_shortest c R);
    }

pub each_side : EachSide
each_side g s es cs A =
    let b : ℕ = g.side in
    let ss = slips_of s es in
    let R : Real (length (slips_of s es)) (of_side cs b) = slips_side s es cs b A.sides in
    record {
      greedy = greedy_of (sided g cs ss) R;
      fewer_joins = λ h e le. rw e (plain_fewer ss (kept_of (sided g cs ss)) g.least h.least le);
      stop-free = all_count (sided g cs ss);
      all_tried = λ i p l e.
          tried_of g s es (of_side cs b) A.tray R i
          (those_in _ (up_from_in 1 (length cs) i p (omega (arith, (sides_tell es cs A.sides).0))) (eq-eqb (side_of cs i) b e));
      shortest = shortest_of_lem (sided g cs ss) R;
    }
