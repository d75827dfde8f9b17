-- What is claimed of a tray, claimed of each of its sides: of the tray s with ends es and sides cs the side that the settings g name.
--   SideAlone    == the side composes exactly as a tray that holds that side only, slip numbers being those of the whole tray
--   SidesAlone  == so every side of every accepted tray
--   HeldBySide     == all that is claimed of composing, of the side
--   EachSide    == so of every side of every accepted tray
use Rattle.std.specs.Prelude.{◌≡◌, true, List, ℕ, ◌≤◌, leb, length}
use Rattle.words.specs.Lists.{those}
use Rattle.trays.specs.declared.Settings.{Settings}
use Rattle.trays.specs.Slips.{slips_of, only}
use Rattle.trays.specs.Faults.{tray_fault}
use Rattle.trays.specs.Written.{letters_of, ends_of}
use Rattle.trays.specs.Sides.{side_of, of_side, AcceptedSides}
use Rattle.greedy.specs.Composing.{whole, sided, kept_of, joins_of}
use Rattle.greedy.specs.Sides.{Alone}
use Rattle.greedy.specs.Claims.{Greedy, stop_free, AllCount, Tried}
use Rattle.shortest.specs.Sides.{AloneShortest}
use Rattle.shortest.specs.Claims.{Optimal}

pub record SideAlone (g : Settings) (s es cs : List ℕ) : Type 0 where
  -- the slips of the side, written as a tray of their own, are accepted
  pub accepted : let os = only (slips_of s es) (of_side cs g.side) in (tray_fault (letters_of os) (ends_of os)).number ≡ 0
  -- and that tray has the joins, the legend and the places of the side, by both rules, and its shortest order and legend
  pub composes :
      let os = only (slips_of s es) (of_side cs g.side) in Alone (sided g cs (slips_of s es)) (whole g (slips_of (letters_of os) (ends_of os)))
  pub shortest :
      let os = only (slips_of s es) (of_side cs g.side) in AloneShortest (sided g cs (slips_of s es)) (whole g (slips_of (letters_of os) (ends_of os)))

abbrev pub SidesAlone : Type 0
SidesAlone = (g : Settings) (s es cs : List ℕ) → AcceptedSides s es cs → SideAlone g s es cs

pub record HeldBySide (g : Settings) (s es cs : List ℕ) : Type 0 where
  -- one list by both rules; kept letters = saved + legend length; the legend holds every kept slip; at most twice
  pub greedy : Greedy (sided g cs (slips_of s es))
  -- a higher least overlap only leaves joins out
  pub fewer_joins :
      (h : Settings) → h.side ≡ g.side → g.least ≤ h.least
      → let ss = slips_of s es in joins_of (sided h cs ss) ≡ those (λ j. leb h.least j.overlap) (joins_of (sided g cs ss))
  -- with a least overlap of 1, and where no kept slip of the side begins with a stop, the rule on stops changes nothing
  pub stop-free : let c = sided g cs (slips_of s es) in g.least ≡ 1 → stop_free c.slips (kept_of c) ≡ true → AllCount c
  -- the trial of places, of every slip of the side
  pub all_tried : (i : ℕ) → 1 ≤ i → i ≤ length es → side_of cs i ≡ g.side → Tried (sided g cs (slips_of s es)) i
  -- the shortest legend
  pub shortest : Optimal (sided g cs (slips_of s es))

abbrev pub EachSide : Type 0
EachSide = (g : Settings) (s es cs : List ℕ) → AcceptedSides s es cs → HeldBySide g s es cs
