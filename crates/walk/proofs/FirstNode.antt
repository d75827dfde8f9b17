-- Where the visits of a row begin: at its first node, or at the second if the first is of stops alone.
--   own-..    == the node's letters, read where the table OWN says
--   first-..  == the first node counts, or is passed over
-- The strings of a row are as long as each other and ascend, and the stop is the lowest sign: all behind the first count.
use mathlib.Core.Path.{◌≡◌, sym, ap, ◌∙◌}
use mathlib.Core.Bool.{Bool, true, false}
use mathlib.Core.List.Memᴰ
use mathlib.Core.List.{List, ◌∷◌, map}
use Prim.Native.Nat.{ℕ, suc, ◌+◌, ◌-◌, ◌≤◌, ◌<◌}
use native.Mathlib.Numerals.{add-one}
use native.Mathlib.Omega.{arith}
use lib.ListN.{length, take, drop}
use Rattle.words.specs.Lists.{those, up_from}
use Rattle.words.proofs.Members.{in_up_from, those-yes, those_no}
use Rattle.words.proofs.Picks.{those_all}
use Rattle.trays.specs.Limits.{max_slip}
use Rattle.trays.specs.Aside.{not_stops}
use Rattle.trays.proofs.Stops.{after_counts}
use Rattle.tables.specs.Tables.{Got}
use Rattle.matching.specs.Steps.Nodes.{string, Num}
use Rattle.layout.specs.Layout.{LEVEL, OWN}
use Rattle.layout.specs.Tables.{cell}
use Rattle.layout.specs.Rows.{nodes_at}
use Rattle.layout.specs.Numbered.{Numbered}
use Rattle.layout.proofs.OwnLaws.{owned-place, owned_long, owned-letters, owned_signs}
use Rattle.layout.proofs.RowLaws.{row_num, row_before}
use Rattle.layout.proofs.AreaSlips.{area_slips}
use Rattle.walk.specs.Steps.Walking.{RowEnds, CountedFrom}

module _ {s es : List ℕ} {n nodes : ℕ} {w : List ℕ} {d end v : ℕ} (R : RowEnds s es n nodes w d end) (a : Got w LEVEL d v) where
  open area_slips s es n w use {ps}

  abbrev N : Numbered s es n nodes w
  N = R.numbered

  row_is : nodes_at ps (cell w LEVEL) d ≡ map (string ps) (up_from v (end - v))
  row_is = rw (a.is, R.upto)

  module _ (h : v < end) where
    abbrev x : List ℕ
    x = string ps v

    num : Num ps v × (length x ≡ d)
    num = row_num ps (cell w LEVEL) max_slip N.level d v R.some R.most (omega (arith, a.is)) (omega (arith, R.upto))

    abbrev others : List (List ℕ)
    others = map (string ps) (up_from (suc v) (end - suc v))

    row_first : nodes_at ps (cell w LEVEL) d ≡ x ∷ others
    row_first = let e : end - v ≡ suc (end - suc v) = omega arith in row_is ∙ rw e

    -- behind the first node all count
    others_count : those not_stops others ≡ others
    others_count =
        those_all not_stops others
        (λ y m.
        let (u, k, e) = Memᴰ.of_map (string ps) (up_from (suc v) (end - suc v)) m in
        let (low, high) = in_up_from (suc v) (end - suc v) k in
        let (same, less) =
        row_before ps (cell w LEVEL) max_slip N.level d v u R.some R.most (omega (arith, a.is)) low (omega (arith, R.upto)) in
        rw (← e) (after_counts x (string ps u) same (owned_signs N v num.0) less))

    module _ (p : ℕ) (g : Got w OWN v p) where
      pub own_long : d ≤ p + 1
      own_long = omega (arith, g.is, num.1, owned_long N v num.0)

      pub own_inside : p + 1 ≤ length s
      own_inside = omega (arith, g.is, (owned-place N v num.0).0)

      own_is : take (p + 1 - (p + 1 - d)) (drop (p + 1 - d) s) ≡ x
      own_is =
          let size : p + 1 - (p + 1 - d) ≡ length x = omega (arith, num.1, own_long) in
          let start : p + 1 - d ≡ cell w OWN v + 1 - length x = omega (arith, g.is, num.1) in
          rw (size, start) (owned-letters N v num.0)

      module _ (r : Bool) (q : r ≡ not_stops (take (p + 1 - (p + 1 - d)) (drop (p + 1 - d) s))) where
        pub first_counts : r ≡ true → CountedFrom s es n w d end v
        first_counts t =
            let c : not_stops x ≡ true = rw own_is at (sym q ∙ t) in
            let e : end - v ≡ suc (end - suc v) = omega arith in
            record { from = omega (arith, a.is); those_are = rw (row_first, e) (those-yes not_stops x others c ∙ ap (λ l. x ∷ l) others_count) }

        pub first-skips : r ≡ false → CountedFrom s es n w d end (v + 1)
        first-skips t =
            let c : not_stops x ≡ false = rw own_is at (sym q ∙ t) in
            record { from = omega (arith, a.is); those_are = rw (row_first, add-one v) (those_no not_stops x others c ∙ others_count) }
