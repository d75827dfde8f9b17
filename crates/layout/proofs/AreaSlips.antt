-- The slips of a tray, the members of its automaton and their letters: named once, and opened at the head of a section by
-- `open area_slips s es n w use {ss, M, ps}`.
use mathlib.Core.List.{List}
use Prim.Native.Nat.{ℕ}
use Rattle.trays.specs.Slips.{slips_of}
use Rattle.layout.specs.Tables.{members}
use Rattle.layout.specs.Numbered.{patterns_in}

pub record AreaSlips : Type 0 where
  pub ss : List (List ℕ)
  pub M : List ℕ
  pub ps : List (List ℕ)

abbrev pub area_slips : List ℕ → List ℕ → ℕ → List ℕ → AreaSlips
area_slips s es n w = record { ss = slips_of s es; M = members w n; ps = patterns_in s es n w }
