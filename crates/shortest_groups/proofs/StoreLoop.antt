-- The row of one group, filled place by place.
--   Saves o n, saves         == n is what the choice o saves
--   store_within, store-room == one cell: its place, and what putting asks
--   store-put                == it is put
--   storing_more             == one cell more of the row
use mathlib.Core.Path.{◌≡◌, sym, ap, ◌∙◌}
use mathlib.Core.List.{List}
use Prim.Native.Nat.{ℕ, ◌+◌, ◌-◌, ◌*◌, ◌^◌, ◌≤◌, ◌<◌}
use native.Mathlib.Decide.{ℕ_discrete}
use native.Mathlib.Omega.{arith}
use lib.ListN.{length}
use lib.Pow.{pow_mono, pow_pos}
use Rattle.std.specs.Prelude.{Option, None, Some}
use Rattle.trays.specs.Limits.{max_slip, max_shortest}
use Rattle.tables.specs.Tables.{Room, Put, Cells, Only}
use Rattle.tables.proofs.Tables.{only_trans, only_wider, put_only, put-here}
use Rattle.shortest.specs.Orders.{without}
use Rattle.shortest.specs.Steps.Choosing.{most}
use Rattle.shortest_groups.specs.declared.Choice.{Choice}
use Rattle.shortest_groups.specs.Groups.{pair_cells, pairs_of}
use Rattle.shortest_groups.specs.Steps.Marks.{rest_of}
use Rattle.shortest_groups.specs.Steps.NextPlace.{cell_of, value_of, place_of, Seeking}
use Rattle.shortest_groups.specs.Steps.Working.{Ready, Stored, Storing}
use Rattle.shortest_groups.proofs.BestPlace.{most_step, most-bound}
use Rattle.shortest_groups.proofs.GroupMarks.{rest_few}
use Rattle.shortest_groups.proofs.Pairs.{pairs_kept, pairs_same, pairs_bound, paired_kept}

-- what is saved by a choice, 0 where there is none
abbrev pub Saves : Option Choice → ℕ → Type 0
Saves None saved = saved ≡ 0
Saves (Some c) saved = saved ≡ c.saved

saves : (found : Option Choice) (saved : ℕ) → Saves found saved → saved ≡ value_of found - 1
saves None saved e = let h : saved ≡ 0 = e in omega (arith, h)
saves (Some c) saved e = let h : saved ≡ c.saved = e in omega (arith, h)

-- one cell
module _ {w : List ℕ} {k g a : ℕ} (R : Ready w k g × (a < k)) where
  ready : Ready w k g
  ready = R.0

  pub store_within : max_shortest * g + a < max_shortest * 2 ^ max_shortest
  store_within =
      let m : 2 ^ k ≤ 2 ^ max_shortest = pow_mono ready.paired.few in
      omega (arith, ready.below, ready.paired.few, R.1)

  module _ (found : Option Choice) (saved : ℕ) (s : Seeking w g a k (value_of found) (place_of found)) (e : Saves found saved) where
    saved-is : saved ≡ most (pairs_of w) (length (rest_of g k)) a (rest_of g k)
    saved-is =
        saves found saved e ∙ ap (λ n. n - 1) s.value_is
        ∙ sym (most_step (pairs_of w) a (λ j. cell_of w (g + 2 ^ j) j) (rest_of g k) ready.behind)

    pub store-room : Room w pair_cells (max_shortest * g + a) saved
    store-room =
        let b = most-bound (pairs_of w) max_slip (pairs_bound ready.paired) (length (rest_of g k)) a (rest_of g k) in
        let f : length (rest_of g k) ≤ max_shortest = omega (arith, rest_few g k, ready.paired.few) in
        record { within = omega (arith, store_within, ready.paired.room); small = omega (arith, saved-is) }

    pub store-put : (w' : List ℕ) → Put w pair_cells (max_shortest * g + a) saved w' → Stored w k g a w'
    store-put w' p = record { only = put_only p; here = λ o. put-here p store-room.within ∙ saved-is }

-- the cells of the group's row are not among those that it is worked out from
ready_kept : {w w' : List ℕ} {k g : ℕ} → Only (Cells (pair_cells + max_shortest * g) max_shortest) w w' → Ready w k g → Ready w' k g
ready_kept {w} {w'} {k} {g} f r =
    let pairs = pairs_kept f (λ p l c. omega arith) in
    record {
      paired = paired_kept r.paired w' f.same pairs;
      below = r.below;
      behind =
          λ j i. f.kept (pair_cells + (max_shortest * (g + 2 ^ j) + j)) (λ c. omega (arith, pow_pos j))
          ∙ r.behind j i ∙ ap (λ v. most v (length (without j (rest_of g k))) j (without j (rest_of g k))) (sym (pairs_same w w' pairs));
    }

-- the row
module _ {w v : List ℕ} {k g a : ℕ} (S : Storing w k g a v) where
  pub storing_more : (v' : List ℕ) → a < k → Stored v k g a v' → Storing w k g (a + 1) v'
  storing_more v' l s =
      let few : a < max_shortest = omega (arith, S.ready.paired.few) in
      let f : Only (Cells (pair_cells + max_shortest * g) max_shortest) v v' = only_wider s.only (λ p q. omega arith) in
      let saved : ℕ → (ℕ → ℕ → ℕ) → ℕ = λ b u. most u (length (rest_of g k)) b (rest_of g k) in
      let same : pairs_of v ≡ pairs_of v' = sym (pairs_same v v' (pairs_kept f (λ p m c. omega arith))) in
      record {
        only = only_trans S.only f;
        ready = ready_kept f S.ready;
        done =
            λ b m o.
            elim (ℕ_discrete b a) [
              | yes q ↦ rw q (s.here (rw q at o)) ∙ ap (saved b) same
              | no ne ↦
                  s.only.kept (pair_cells + (max_shortest * g + b)) (λ q. ne (omega arith)) ∙ S.done b (omega arith) o ∙ ap (saved b) same
            ];
      }
