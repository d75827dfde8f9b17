-- Slips chosen out of a tray, s with ends es.
--   SideSlips cs b == the numbers of the slips of side b, where cs are the sides of all slips
--   CanCut s es M  == the tray is accepted, and M are numbers of its slips, ascending: these can be cut out as a tray of their own
--   CanWrite, SlipsWritten == what writing the slips numbered in M after `here` letters asks and leaves; r letters are written
use Rattle.std.specs.Prelude.{◌≡◌, List, ℕ, ◌+◌, ◌≤◌, ◌<◌, length, take}
use Rattle.words.specs.Lists.{All, over}
use Rattle.words.specs.Steps.Members.{In, Asc}
use Rattle.trays.specs.Limits.{max_slips, max_letters}
use Rattle.trays.specs.Slips.{slips_of, only}
use Rattle.trays.specs.Faults.{tray_fault}
use Rattle.trays.specs.Sides.{of_side}
use Rattle.trays.specs.Written.{letters_of, ends_from}
use Rattle.tray_cut.specs.declared.Chosen.{Chosen}

pub record SideSlips (cs : List ℕ) (b : ℕ) (r : Chosen) : Type 0 where
  pub size : length r.slips ≡ max_slips
  pub few : r.count ≤ length cs
  pub slips_are : take r.count r.slips ≡ of_side cs b

pub record CanCut (s es M : List ℕ) : Type 0 where
  pub tray : (tray_fault s es).number ≡ 0
  pub rise : Asc ◌<◌ M
  pub real : (i : ℕ) → In i M → (1 ≤ i) × (i ≤ length es)

pub record CanWrite (s es M : List ℕ) (here a b : ℕ) : Type 0 where
  pub tray : (tray_fault s es).number ≡ 0
  pub real : All (λ i. (1 ≤ i) × (i ≤ length es)) M
  pub few : length M ≤ b
  pub room : length (letters_of (only (slips_of s es) M)) ≤ a
  pub small : here + length (letters_of (only (slips_of s es) M)) ≤ max_letters

pub record SlipsWritten (s es M : List ℕ) (here : ℕ) (a a' b b' : List ℕ) (r : ℕ) : Type 0 where
  pub letters_are : a' ≡ over (letters_of (only (slips_of s es) M)) a
  pub ends_are : b' ≡ over (ends_from here (only (slips_of s es) M)) b
  pub count_is : r ≡ length (letters_of (only (slips_of s es) M))
