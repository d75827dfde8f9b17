-- The slips of a side of an accepted tray, chosen: they can be cut out.
--   sides_few  == what choosing them asks
--   slips-..   == the part of the numbers that is lent
--   own_cut    == the slips of a side can be cut out as a tray of their own; side_few == which has no more than a tray may have
--   side_cut   == so can those chosen
use mathlib.Core.Path.{◌≡◌, sym}
use mathlib.Core.List.{List}
use Prim.Native.Nat.{ℕ, ◌≤◌}
use native.Mathlib.Omega.{arith}
use lib.ListN.{length, take}
use lib.Seq.{length-take-le}
use Rattle.trays.specs.Limits.{max_slips}
use Rattle.trays.specs.Sides.{of_side, AcceptedSides}
use Rattle.trays.proofs.Accepted.{accepted_tells}
use Rattle.trays.proofs.SidedTrays.{sides_tell}
use Rattle.greedy.proofs.Chosen.{Real}
use Rattle.greedy.proofs.SideLists.{side_real}
use Rattle.tray_cut.specs.declared.Chosen.{Chosen}
use Rattle.tray_cut.specs.Choosing.{SideSlips, CanCut}
use Rattle.tray_cut.proofs.CutTray.{chosen_few}

module _ (s es cs : List ℕ) (h : AcceptedSides s es cs) where
  same_count : length cs ≡ length es
  same_count = (sides_tell es cs h.sides).0

  pub sides_few : length cs ≤ max_slips
  sides_few = omega (arith, same_count, (accepted_tells s es h.tray).few)

  own_cut : (b : ℕ) → CanCut s es (of_side cs b)
  own_cut b =
      let R : Real (length es) (of_side cs b) = side_real cs b (length es) same_count in
      record { tray = h.tray; rise = R.rise; real = R.real }

  pub side_few : (b : ℕ) → length (of_side cs b) ≤ max_slips
  side_few b = chosen_few s es (of_side cs b) (own_cut b)

  module _ (b : ℕ) (o : Chosen) (S : SideSlips cs b o) where
    pub slips_fit : o.count ≤ length o.slips
    slips_fit = omega (arith, S.size, S.few, sides_few)

    pub slips_counted : o.count ≡ length (take o.count o.slips)
    slips_counted = sym (length-take-le o.count o.slips slips_fit)

    pub side_cut : CanCut s es (take o.count o.slips)
    side_cut = rw S.slips_are (own_cut b)
