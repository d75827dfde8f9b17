-- The visits of the nodes of one length, by number.
--   RowWalking .. w made v end ..  == what is left of the row from node v on makes of the joins in w what the whole row makes
use mathlib.Core.Path.{◌≡◌, sym, ◌∙◌}
use mathlib.Core.List.{List, map}
use Prim.Native.Nat.{ℕ, suc, ◌+◌, ◌-◌, ◌≤◌, ◌<◌}
use native.Mathlib.Numerals.{add-one}
use native.Mathlib.Omega.{arith}
use lib.ListN.{length}
use Rattle.words.specs.Lists.{up_from}
use Rattle.trays.specs.Limits.{max_slip}
use Rattle.trays.specs.Slips.{slips_of}
use Rattle.tables.specs.Tables.{Cells, Only}
use Rattle.tables.proofs.Tables.{only_trans}
use Rattle.greedy.specs.Walk.{visit, walk_from}
use Rattle.greedy.proofs.Scans as S
use Rattle.matching.specs.Steps.Nodes.{string, Num}
use Rattle.layout.specs.Layout.{LEVEL, JOINS, all_joins}
use Rattle.layout.specs.Tables.{cell}
use Rattle.layout.specs.Numbered.{patterns_in}
use Rattle.layout.specs.Staging.{kept_in, joins_in}
use Rattle.walk_offer.specs.Steps.Runs.{starters_at, enders_at}
use Rattle.walk_offer.specs.Steps.Marks.{Marked}
use Rattle.walk_offer.specs.declared.Marks.{Marks}
use Rattle.walk_offer.specs.Steps.Offers.{JoinsMade}
use Rattle.walk.specs.Steps.Walking.{Visits, Walkable, row_walked}
use Rattle.layout.proofs.RowLaws.{row_num}
use Rattle.layout.proofs.AreaSlips.{area_slips}
use Rattle.walk.proofs.WalkableLaws.{kept_rises, here_sized, node_starts, node_ends, patterns-same, kept_same, walkable_kept}

pub record RowWalking (s es : List ℕ) (n k nodes : ℕ) (w₀ : List ℕ) (d made₀ : ℕ) (w : List ℕ) (made v end : ℕ)
    (marks : Marks) : Type 0 where
  pub walkable : Walkable s es n k nodes w₀
  pub some : 1 ≤ d
  pub most : d ≤ max_slip
  pub only : Only (Cells JOINS all_joins) w₀ w
  pub from : cell w₀ LEVEL d ≤ v
  pub upto : end ≡ cell w₀ LEVEL (suc d)
  pub marked : Marked (joins_in w made) marks
  pub rest : walk_from (slips_of s es) (kept_in w₀ k) (map (string (patterns_in s es n w₀)) (up_from v (end - v))) (joins_in w made)
      ≡ row_walked s es n k w₀ d made₀

module _ {s es : List ℕ} {n k nodes : ℕ} {w₀ : List ℕ} {d made₀ : ℕ} {w : List ℕ} {made v end : ℕ} {marks : Marks}
    (T : RowWalking s es n k nodes w₀ d made₀ w made v end marks) where
  open area_slips s es n w₀ use {ss, ps}

  abbrev K : List ℕ
  K = kept_in w₀ k

  here : Walkable s es n k nodes w
  here = walkable_kept T.walkable T.only

  module _ (h : v < end) where
    num : Num ps v × (length (string ps v) ≡ d)
    num = row_num ps (cell w₀ LEVEL) max_slip T.walkable.numbered.level d v T.some T.most T.from (omega (arith, T.upto))

    here_num : Num (patterns_in s es n w) v × (length (string (patterns_in s es n w) v) ≡ d)
    here_num = rw (patterns-same T.walkable T.only) num

    pub row_visits : Visits es w d v made marks
    row_visits =
        record {
          sized = here_sized here d T.some T.most;
          node = omega (arith, num.0.inside, T.walkable.numbered.all_nodes, T.walkable.numbered.few_nodes);
          starts = (node_starts here v d T.some here_num.0 here_num.1).1;
          ends = (node_ends here v d T.some here_num.0 here_num.1).1;
          marked = T.marked;
        }

    abbrev x : List ℕ
    x = string ps v

    -- a visit of the node is a scan of its lists
    visited : S.scan (enders_at w es d v) d (starters_at w es d v) (joins_in w made) ≡ visit ss K x K (joins_in w made)
    visited =
        rw (
          (node_ends here v d T.some here_num.0 here_num.1).0,
          (node_starts here v d T.some here_num.0 here_num.1).0,
          kept_same T.walkable T.only,
          patterns-same T.walkable T.only,
          ← num.1,
        )
        (sym (S.visit-scan ss x K (kept_rises T.walkable) K (joins_in w made)))

    rest_first : walk_from ss K (map (string ps) (up_from v (end - v))) (joins_in w made)
        ≡ walk_from ss K (map (string ps) (up_from (suc v) (end - suc v))) (visit ss K x K (joins_in w made))
    rest_first = let e : end - v ≡ suc (end - suc v) = omega arith in rw e

    pub row_turn : {w' : List ℕ} {marks' : Marks} {made' : ℕ} (v' : ℕ)
        → JoinsMade w (S.scan (enders_at w es d v) d (starters_at w es d v) (joins_in w made)) w' marks' made' → v' ≡ v + 1
        → RowWalking s es n k nodes w₀ d made₀ w' made' v' end marks'
    row_turn v' m q =
        let e : v' ≡ suc v = q ∙ add-one v in
        record {
          walkable = T.walkable;
          some = T.some;
          most = T.most;
          only = only_trans T.only m.only;
          from = omega (arith, T.from);
          upto = T.upto;
          marked = rw m.joins_are m.marked;
          rest = rw (e, m.joins_are, visited) (sym rest_first ∙ T.rest);
        }
