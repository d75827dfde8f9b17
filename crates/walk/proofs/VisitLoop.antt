-- A visit, slip by slip.
--   Visiting .. w made l r ..  == what is left of the visit from the slips l and r on makes of the joins in w what the whole visit makes
use mathlib.Core.Path.{◌≡◌, sym, ap, ◌∙◌}
use mathlib.Core.List.{List, ◌∷◌}
use Prim.Native.Nat.{ℕ, ◌<◌}
use native.Mathlib.Omega.{arith}
use lib.ListN.{length}
use Rattle.tables.specs.Tables.{Cells, Only}
use Rattle.tables.proofs.Tables.{only_trans}
use Rattle.greedy.specs.Joins.{Join}
use Rattle.greedy.proofs.Scans as S
use Rattle.layout.specs.Layout.{JOINS, all_joins}
use Rattle.layout.specs.Staging.{joins_in}
use Rattle.trays.specs.Limits.{max_slips}
use Rattle.walk_offer.specs.Steps.Runs.{along, waiting_in, next_starter, next_ender, starters_from, starters_at, enders_from, enders_at, Real, ListedFrom}
use Rattle.walk_offer.specs.Steps.Marks.{Marked}
use Rattle.walk_offer.specs.declared.Marks.{Marks}
use Rattle.walk_offer.specs.Steps.Offers.{Sized, Searches, FoundPartner, JoinsMade, Offers}
use Rattle.walk_offer.proofs.RunLaws.{listed_first, listed_next, listed_real, sized_kept, ender_kept, starter_kept}
use Rattle.walk_offer.proofs.ScanLaws.{MarksOf, waiting_twice, scan-waiting}
use Rattle.walk_offer.proofs.MarkLaws.{right_mark}

pub record Visiting (es : List ℕ) (d v : ℕ) (w₀ : List ℕ) (count : ℕ) (w : List ℕ) (made l r : ℕ) (marks : Marks) : Type 0 where
  pub sized : Sized es w₀ d
  pub only : Only (Cells JOINS all_joins) w₀ w
  pub ends : ListedFrom es d (next_ender w₀ es d) l
  pub starts : ListedFrom es d (next_starter w₀ es d) r
  pub marked : Marked (joins_in w made) marks
  pub rest : S.scan (enders_from w₀ es d l) d (starters_from w₀ es d r) (joins_in w made)
      ≡ S.scan (enders_at w₀ es d v) d (starters_at w₀ es d v) (joins_in w₀ count)

module _ {es : List ℕ} {d v : ℕ} {w₀ : List ℕ} {count : ℕ} {w : List ℕ} {made l r : ℕ} {marks : Marks}
    (T : Visiting es d v w₀ count w made l r marks) where
  abbrev js : List Join
  js = joins_in w made

  here_sized : Sized es w d
  here_sized = sized_kept T.sized T.only

  same-enders : next_ender w es d ≡ next_ender w₀ es d
  same-enders = ender_kept T.sized T.only

  froms : (i : ℕ) → enders_from w es d i ≡ enders_from w₀ es d i
  froms i = ap (λ (f : ℕ → ℕ). along f max_slips i) same-enders

  pub visit_searches : Searches es w d marks.right l
  visit_searches = record { sized = here_sized; rights = T.marked.neighbours.rights; list = rw same-enders T.ends }

  module _ (some : r ≡ 0 → ⊥) where
    pub visit_real : Real es d r
    visit_real = listed_real (next_starter w₀ es d) es d r T.starts some

    starters-first : starters_from w₀ es d r ≡ r ∷ starters_from w₀ es d (next_starter w₀ es d r)
    starters-first = listed_first (next_starter w₀ es d) es d r T.starts some

    module _ {l' : ℕ} (f : FoundPartner es w d marks.right l l') where
      pub visit_offers : Offers es w d r l' made marks
      visit_offers =
          record {
            search = record { sized = here_sized; rights = T.marked.neighbours.rights; list = f.list };
            waits = rw f.rest (waiting_twice marks.right (enders_from w es d l));
            real = visit_real;
            marked = T.marked;
          }

      ender_marks : MarksOf marks.right js (enders_from w₀ es d l)
      ender_marks x m = let p = T.ends.all x m in right_mark T.marked x p.some (omega (arith, p.inside, T.sized.few))

      -- what the search has passed changes nothing
      found_rest : S.scan (enders_from w₀ es d l') d (starters_from w₀ es d r) js ≡ S.scan (enders_at w₀ es d v) d (starters_at w₀ es d v) (joins_in w₀ count)
      found_rest =
          rw (sym (froms l') ∙ f.rest ∙ ap (waiting_in marks.right) (froms l)) (sym (scan-waiting marks.right js (enders_from w₀ es d l) d (starters_from w₀ es d r) ender_marks) ∙ T.rest)

      module _ {w' : List ℕ} {marks' : Marks} {made' : ℕ}
          (m : JoinsMade w (S.offer (enders_from w es d l') d r (joins_in w made)) w' marks' made') where
        all_only : Only (Cells JOINS all_joins) w₀ w'
        all_only = only_trans T.only m.only

        module _ {r' : ℕ} (q : r' ≡ next_starter w' es d r) where
          next_is : r' ≡ next_starter w₀ es d r
          next_is = q ∙ ap (λ f. f r) (starter_kept T.sized all_only)

          pub visit-less : length (starters_from w₀ es d r') < length (starters_from w₀ es d r)
          visit-less = rw next_is (omega (arith, ap length starters-first))

          pub visit_turn : Visiting es d v w₀ count w' made' l' r' marks'
          visit_turn =
              let e : joins_in w' made' ≡ S.offer (enders_from w₀ es d l') d r js = m.joins_are ∙ ap (λ ls. S.offer ls d r js) (froms l') in
              record {
                sized = T.sized;
                only = all_only;
                ends = rw same-enders at f.list;
                starts = rw next_is (listed_next (next_starter w₀ es d) es d r T.starts some);
                marked = rw m.joins_are m.marked;
                rest = rw (e, next_is) (rw starters-first at found_rest);
              }
