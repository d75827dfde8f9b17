-- What is claimed of greedy joining, whole: the statement is Claims.GreedyLegends. It holds for every list of slips, accepted or not, and any members
-- that ascend from 1.
use mathlib.Core.List.{List}
use Prim.Native.Nat.{ℕ, ◌≤◌, ◌<◌}
use lib.ListN.{length}
use Rattle.words.proofs.Members.{In, Asc, in_up_from, asc_up_from}
use Rattle.trays.specs.Slips.{numbers, slips_of}
use Rattle.trays.specs.Aside.{counted}
use Rattle.trays.proofs.Stops.{counted_counts}
use Rattle.greedy.specs.Composing.{Composing, whole, kept_of}
use Rattle.greedy.specs.Claims.{Greedy, GreedyLegends}
use Rattle.greedy.proofs.OneList.{one_list, kept_ready}
use Rattle.greedy.proofs.Letters.{saving_of, holds_of}
use Rattle.greedy.proofs.Bound.{kept_rep, kept_at_most_twice}
use Rattle.greedy.proofs.StopFree.{plain-free}
use Rattle.greedy.proofs.Chosen.{Real, numbers_real}

-- the numbers of a tray's slips rise from 1
pub numbers_rise : (ss : List (List ℕ)) → Asc ◌<◌ (numbers ss)
numbers_rise ss = asc_up_from 1 (length ss)

pub numbers_positive : (ss : List (List ℕ)) (i : ℕ) → In i (numbers ss) → 1 ≤ i
numbers_positive ss i h = (in_up_from 1 (length ss) h).0

-- for any members that ascend from 1
pub greedy_of : (c : Composing) {n : ℕ} → Real n c.members → Greedy c
greedy_of c R =
    let counts = counted c.least in
    let positive : (i : ℕ) → In i c.members → 1 ≤ i = λ i m. (R.real i m).0 in
    let r = kept_rep c.slips c.members R.rise positive counts in
    record {
      one_list = one_list counts c.slips (kept_of c) (kept_ready counts c.slips c.members (counted_counts c.least) R.rise positive);
      saving = saving_of counts c.slips r.1;
      legend_holds = holds_of counts c.slips r.1;
      at_most_twice = λ one free.
          rw (plain-free c.slips c.least one (kept_of c) free) (kept_at_most_twice c.slips c.members R.rise positive);
    }

pub greedy_legends : GreedyLegends
greedy_legends g s es accepted = greedy_of (whole g (slips_of s es)) (numbers_real (slips_of s es))
