-- The walk, row by row, and what it has made in the end.
--   Walking m .. w made d .. == the rows of d letters and fewer, walked from the joins in w on, make the joins of the walk
--   few_joins               == the plain rule makes no more joins than there are slips
use mathlib.Core.Path.{◌≡◌, sym, ap, ◌∙◌}
use mathlib.Core.Bool.{Bool}
use mathlib.Core.List.{List, [], ◌++◌}
use Prim.Native.Nat.{ℕ, suc, ◌+◌, ◌-◌, ◌≤◌, ◌<◌}
use native.Mathlib.Omega.{arith}
use lib.ListN.{length}
use Rattle.words.specs.Lists.{those, up_from}
use Rattle.words.proofs.Members.{In, Asc, those_append}
use Rattle.words.proofs.Picks.{those-same, those_none}
use Rattle.words.proofs.Sums.{all_in, asc_once, length_sum}
use Rattle.trays.specs.Limits.{max_slips, max_slip}
use Rattle.trays.specs.Slips.{slips_of}
use Rattle.trays.specs.Aside.{not_stops, counted}
use Rattle.trays.proofs.Stops.{counted_counts, counted_long, counted_short}
use Rattle.tables.specs.Tables.{Cells, Only}
use Rattle.tables.proofs.Tables.{only-refl, only_trans}
use Rattle.greedy.specs.Joins.{plain_for}
use Rattle.greedy.specs.Walk.{walk_from, walk_for}
use Rattle.greedy.proofs.Chains.{chains_fewer}
use Rattle.greedy.proofs.Represent.{plain_rep}
use Rattle.greedy.proofs.Nodes.{walk_append, walk_nodes}
use Rattle.greedy.proofs.OneList.{Ready, one_list, kept_ready}
use Rattle.layout.specs.Layout.{LEVEL, JOINS, all_joins}
use Rattle.layout.specs.Tables.{cell, members}
use Rattle.layout.specs.Numbered.{patterns_in}
use Rattle.layout.specs.Staging.{kept_in, joins_in}
use Rattle.walk_offer.specs.Steps.Marks.{Marked}
use Rattle.walk_offer.specs.declared.Marks.{Marks}
use Rattle.layout.specs.Rows.{nodes_at, rows}
use Rattle.walk_offer.specs.Steps.Offers.{JoinsMade}
use Rattle.walk.specs.Steps.Walking.{Walkable, RowAsks, row_walked, Fresh, Walked}
use Rattle.walk_offer.proofs.MarkLaws.{marks_none}
use Rattle.walk_offer.proofs.JoinCells.{joins_length}
use Rattle.layout.proofs.RowLaws.{row-length, rows-length, rows_nodes}
use Rattle.layout.proofs.AreaSlips.{area_slips}
use Rattle.walk.proofs.WalkableLaws.{kept_rises, kept_member, kept_count, patterns-same, kept_same, walkable_kept}

few_joins : (counts : List ℕ → Bool) (ss : List (List ℕ)) (K : List ℕ) → Asc ◌<◌ K → ((x : ℕ) → In x K → 1 ≤ x) → length (plain_for counts ss K) ≤ length K
few_joins counts ss K a p =
    let (Cs, rep) = plain_rep counts ss K (asc_once K a) (all_in (λ x. 1 ≤ x) K p) in
    omega (arith, rep.count, rep.all (λ x. 1), length_sum K, chains_fewer Cs)

pub record Walking (m : ℕ) (s es : List ℕ) (n k nodes : ℕ) (w₀ w : List ℕ) (made d : ℕ) (marks : Marks) : Type 0 where
  pub walkable : Walkable s es n k nodes w₀
  pub only : Only (Cells JOINS all_joins) w₀ w
  pub some : 1 ≤ m
  pub upto : d ≤ max_slip
  pub marked : Marked (joins_in w made) marks
  pub rest : walk_from (slips_of s es) (kept_in w₀ k) (those (counted m) (rows (patterns_in s es n w₀) (cell w₀ LEVEL) d)) (joins_in w made)
      ≡ walk_for (counted m) (slips_of s es) (kept_in w₀ k)

pub walk_start : {m : ℕ} {s es : List ℕ} {n k nodes : ℕ} {w : List ℕ} {marks marks' : Marks}
    → Walkable s es n k nodes w → Fresh marks → 1 ≤ m → marks'.left ≡ marks.left → marks'.right ≡ marks.right → marks'.overs ≡ marks.overs
    → marks'.first ≡ up_from 1 max_slips → marks'.last ≡ up_from 1 max_slips → Walking m s es n k nodes w w 0 max_slip marks'
walk_start {m} {s} {es} {n} {k} {nodes} {w} W F h a b o f l =
    record {
      walkable = W;
      only = only-refl;
      some = h;
      upto = omega arith;
      marked = marks_none _ (a ∙ F.left_none) (b ∙ F.right_none) (o ∙ F.over_none) f l;
      rest =
          walk_nodes (counted m) (slips_of s es) (kept_in w k) (rows (patterns_in s es n w) (cell w LEVEL) max_slip)
          (rows_nodes (slips_of s es) (members w n) (kept_in w k) (kept_member W) (cell w LEVEL) max_slip W.numbered.level);
    }

module _ {m : ℕ} {s es : List ℕ} {n k nodes : ℕ} {w₀ w : List ℕ} {made d : ℕ} {marks : Marks}
    (T : Walking m s es n k nodes w₀ w made d marks) where
  open area_slips s es n w₀ use {ss, ps}

  abbrev K : List ℕ
  K = kept_in w₀ k

  abbrev counts : List ℕ → Bool
  counts = counted m

  module _ (h : m ≤ d) where
    pub walk_some : 1 ≤ d
    walk_some = omega (arith, T.some)

    pub walk_asks : RowAsks s es n k nodes w d made marks
    walk_asks = record { walkable = walkable_kept T.walkable T.only; some = walk_some; most = T.upto; marked = T.marked }

    level-same : (i : ℕ) → i ≤ suc max_slip → cell w LEVEL i ≡ cell w₀ LEVEL i
    level-same i l = T.only.kept (LEVEL + i) (λ q. omega (arith, q.from))

    -- the strings of the row are long enough
    row_long : those not_stops (nodes_at ps (cell w₀ LEVEL) d) ≡ those counts (nodes_at ps (cell w₀ LEVEL) d)
    row_long =
        those-same not_stops counts (nodes_at ps (cell w₀ LEVEL) d)
        (λ x i. sym (counted_long m x (omega (arith, row-length ps (cell w₀ LEVEL) max_slip T.walkable.numbered.level d x walk_some T.upto i))))

    row_same : row_walked s es n k w d made ≡ walk_from ss K (those counts (nodes_at ps (cell w₀ LEVEL) d)) (joins_in w made)
    row_same =
        rw (
          ← row_long,
          kept_same T.walkable T.only,
          patterns-same T.walkable T.only,
          level-same d (omega (arith, T.upto)),
          level-same (suc d) (omega (arith, T.upto)),
        )

    pub walk_turn : {w' : List ℕ} {marks' : Marks} {made' : ℕ} (d' : ℕ)
        → JoinsMade w (row_walked s es n k w d made) w' marks' made' → d' ≡ d - 1
        → Walking m s es n k nodes w₀ w' made' d' marks'
    walk_turn d' j q =
        let e : d ≡ suc d' = omega (arith, walk_some) in
        let here = nodes_at ps (cell w₀ LEVEL) d in
        let less = rows ps (cell w₀ LEVEL) d' in
        let split : those counts (rows ps (cell w₀ LEVEL) d) ≡ those counts here ++ those counts less =
        rw e (those_append counts (nodes_at ps (cell w₀ LEVEL) (suc d')) less) in
        record {
          walkable = T.walkable;
          only = only_trans T.only j.only;
          some = T.some;
          upto = omega (arith, T.upto);
          marked = rw j.joins_are j.marked;
          rest =
              rw (j.joins_are, row_same)
              (sym (walk_append ss K (those counts here) (those counts less) (joins_in w made))
              ∙ ap (λ l. walk_from ss K l (joins_in w made)) (sym split) ∙ T.rest);
        }

  pub walk_end : d < m → Walked m s es k w₀ w marks made
  walk_end h =
      let none : those counts (rows ps (cell w₀ LEVEL) d) ≡ [] =
      those_none counts (rows ps (cell w₀ LEVEL) d)
      (λ x i. counted_short m x (omega (arith, (rows-length ps (cell w₀ LEVEL) max_slip T.walkable.numbered.level d x T.upto i).1))) in
      let positive : (x : ℕ) → In x (members w₀ n) → 1 ≤ x = λ x i. (T.walkable.numbered.real x i).0 in
      let ready : Ready counts ss K =
      rw T.walkable.kept_are (kept_ready counts ss (members w₀ n) (counted_counts m) T.walkable.numbered.ascending positive) in
      let walked : joins_in w made ≡ walk_for counts ss K = (rw none at T.rest) in
      let plain : joins_in w made ≡ plain_for counts ss K = walked ∙ one_list counts ss K ready in
      record {
        joins_are = plain;
        neighbours = T.marked.neighbours;
        small = T.marked.small;
        few = omega (
          arith,
          joins_length w made,
          ap length plain,
          few_joins counts ss K (kept_rises T.walkable) (λ x i. positive x (kept_member T.walkable x i)),
          kept_count T.walkable,
        );
        only = T.only;
      }
