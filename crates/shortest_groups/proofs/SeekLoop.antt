-- The best place to lay next, sought place by place.
--   held, free   == a place that is in the group, and one that is not, as the code tests it
--   seek_asks    == what the loop over all places asks of one
--   seek_marked  == a place of the group is passed over
--   seek_first, seek_taken == the first place, and one that saves more than those before it, is taken
--   seek_left    == one that does not is left
use mathlib.Core.Path.{◌≡◌, sym, ap, ap₂, ◌∙◌}
use mathlib.Core.List.{List, [], ◌∷◌, ◌++◌}
use mathlib.Core.Bool.{Bool, true, false, not}
use Prim.Native.Nat.{ℕ, suc, ◌+◌, ◌*◌, ◌^◌, ◌≤◌, ◌<◌}
use native.Mathlib.Omega.{arith}
use lib.Dec.{eqb}
use lib.ListN.{get_or}
use lib.Pow.{pow_mono}
use lib.Seq.{get_or-take}
use Rattle.std.specs.Prelude.{Option, None, Some}
use Rattle.std.proofs.Common.{rules, tests}
use Rattle.trays.specs.Limits.{max_shortest}
use Rattle.shortest.specs.Steps.Choosing.{first_most}
use Rattle.tables.specs.Tables.{Got}
use Rattle.shortest_groups.specs.declared.Choice.{Choice}
use Rattle.shortest_groups.specs.Groups.{pair_cells, pairs_of}
use Rattle.shortest_groups.specs.Steps.Marks.{bit, rest_of}
use Rattle.shortest_groups.specs.Steps.NextPlace.{best_of, saved_by, value_of, place_of, Seeking, StepAsks, BestAsks}
use Rattle.shortest_groups.proofs.GroupMarks.{rest_yes, rest_no}
use Rattle.shortest_groups.proofs.BestPlace.{best_taken, best_left}

-- the test
pub held : (b : Bool) (x : ℕ) → b ≡ not (eqb x 0) → b ≡ true → x ≡ 0 → ⊥
held b x e t q = search (rules, tests)

pub free : (b : Bool) (x : ℕ) → b ≡ not (eqb x 0) → b ≡ false → x ≡ 0
free b x e z = search (rules, tests)

-- one place
module _ (w : List ℕ) (g a j : ℕ) (found : Option Choice) (s : StepAsks w g a j (value_of found) (place_of found)) (b : Bool)
    (e : b ≡ not (eqb (bit g j) 0)) where
  pub seek_marked : b ≡ true → Seeking w g a (suc j) (value_of found) (place_of found)
  seek_marked t =
      let r : rest_of g j ≡ rest_of g (suc j) = sym (rest_no g j (held b (bit g j) e t)) in
      record {
        value_is = s.sought.value_is ∙ ap (best_of (saved_by w g a)) r;
        which_is = s.sought.which_is ∙ ap (first_most (saved_by w g a) 0) r;
      }

  module _ (z : b ≡ false) (group here behind : ℕ) (f : group ≡ g + 2 ^ j) (p : Got w 0 (max_shortest * a + j) here)
      (q : Got w pair_cells (max_shortest * group + j) behind) where
    -- what the code adds up is what is saved by j
    saved_is : here + behind ≡ saved_by w g a j
    saved_is =
        let i : max_shortest * a + j < pair_cells = omega (arith, s.row, s.place) in
        let z : 0 + (max_shortest * a + j) ≡ max_shortest * a + j = omega arith in
        let x : here ≡ pairs_of w a j = p.is ∙ ap (λ n. get_or w n 0) z ∙ sym (get_or-take pair_cells w (max_shortest * a + j) 0 i) in
        ap₂ ◌+◌ x (rw f at q.is)

    rest_is : rest_of g (suc j) ≡ rest_of g j ++ (j ∷ [])
    rest_is = rest_yes g j (free b (bit g j) e z)

    more : value_of found ≤ here + behind → Seeking w g a (suc j) (suc (here + behind)) j
    more l =
        let r = best_taken (saved_by w g a) (rest_of g j) j (omega (arith, saved_is, s.sought.value_is)) in
        record { value_is = ap suc saved_is ∙ sym r.1 ∙ rw rest_is; which_is = sym r.0 ∙ rw rest_is }

    pub seek_first : found ≡ None → Seeking w g a (suc j) (suc (here + behind)) j
    seek_first o = more (omega (arith, ap value_of o))

    module _ (c : Choice) (o : found ≡ Some c) where
      pub seek_taken : c.saved < here + behind → Seeking w g a (suc j) (suc (here + behind)) j
      seek_taken l = more (omega (arith, ap value_of o))

      pub seek_left : here + behind ≤ c.saved → Seeking w g a (suc j) (suc c.saved) c.place
      seek_left l =
          let v : suc c.saved ≡ best_of (saved_by w g a) (rest_of g j) = sym (ap value_of o) ∙ s.sought.value_is in
          let r = best_left (saved_by w g a) (rest_of g j) j (omega (arith, saved_is, v)) in
          record { value_is = v ∙ sym r.1 ∙ rw rest_is; which_is = sym (ap place_of o) ∙ s.sought.which_is ∙ sym r.0 ∙ rw rest_is }

-- all places
module _ (w : List ℕ) (k g a : ℕ) where
  pub seek_asks : (j value which : ℕ) → BestAsks w k g a → j < k → Seeking w g a j value which → StepAsks w g a j value which
  seek_asks j value which b l f =
      record {
        room = b.room;
        group = let m : 2 ^ k ≤ 2 ^ max_shortest = pow_mono b.few in omega (arith, b.group);
        row = b.row;
        place = omega (arith, b.few);
        sought = f;
      }
