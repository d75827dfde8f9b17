-- The trial of places, for any members of an accepted tray.
--   member_place == a member by its place among the members
--   tried_of   == what is claimed of the trial holds of every member, by way of that tray
use mathlib.Core.Path.{◌≡◌, subst}
use mathlib.Core.List.{List}
use Prim.Native.Nat.{ℕ, suc, ◌≤◌}
use native.Mathlib.Omega.{arith}
use lib.ListN.{length, length-map}
use Rattle.words.specs.Lists.{entry}
use Rattle.words.proofs.Members.{In, up_from_in}
use Rattle.words.proofs.Picks.{in_get_or}
use Rattle.trays.specs.declared.Settings.{Settings}
use Rattle.trays.specs.Slips.{slips_of, slip, numbers, only}
use Rattle.trays.specs.Faults.{tray_fault}
use Rattle.trays.specs.Written.{letters_of, ends_of}
use Rattle.trays.proofs.WrittenSlips.{slips_written, length-ends}
use Rattle.greedy.specs.Composing.{Composing, among, whole}
use Rattle.greedy.specs.Claims.{Tried}
use Rattle.greedy.proofs.Chosen.{Real, only-accepted}
use Rattle.greedy.proofs.Alone.{letters_alone, place_alone, compared_alone, alone_of}
use Rattle.greedy.proofs.Placed.{all_tried}

-- a member by its place among the members, counted from 1
pub member_place : (M : List ℕ) (i : ℕ) → In i M → (k : ℕ) × (k ≤ length M) × (1 ≤ k) × (entry M k ≡ i)
member_place M i m = let (k, l, e) = in_get_or 0 m in (suc k, l, omega arith, e)

module _ (g : Settings) (s es M : List ℕ) (acc : (tray_fault s es).number ≡ 0) (R : Real (length (slips_of s es)) M) where
  abbrev ss : List (List ℕ)
  ss = slips_of s es

  abbrev os : List (List ℕ)
  os = only (slips_of s es) M

  abbrev c : Composing
  c = among g M (slips_of s es)

  alone_tried : (k : ℕ) → 1 ≤ k → k ≤ length os → Tried (whole g os) k
  alone_tried k p l =
      subst (λ (xs : List (List ℕ)). Tried (whole g xs) k) (slips_written os)
      (all_tried g (letters_of os) (ends_of os) (only-accepted s es M acc R) k p (omega (arith, length-ends 0 os)))

  pub tried_of : (i : ℕ) → In i M → Tried c i
  tried_of i m =
      let (k, l, p, e) = member_place M i m in
      let inside : In k (numbers os) = up_from_in 1 (length os) k p (omega (arith, length-map M (slip ss))) in
      let t = alone_tried k p (omega (arith, length-map M (slip ss))) in
      rw (← e)
      record {
        fits = rw (place_alone c R k inside, letters_alone c R k inside, (alone_of c R).legend_is) t.fits;
        small = rw (compared_alone c R k inside) t.small;
      }
