-- Chosen slips of an accepted tray, composed as a tray of their own.
--   cut_can, cut_finished == that tray can be composed, and what is composed is that of the chosen slips
use mathlib.Core.Path.{subst}
use mathlib.Core.List.{List}
use Prim.Native.Nat.{ℕ, ◌≤◌}
use lib.ListN.{length, take, replicate}
use Rattle.trays.specs.declared.Settings.{Settings}
use Rattle.trays.specs.Limits.{max_slips, max_letters, work_need}
use Rattle.trays.specs.Slips.{slips_of, only}
use Rattle.greedy.specs.Composing.{whole}
use Rattle.trie_build.specs.Steps.Built.{Buildable}
use Rattle.answers.specs.declared.Composed.{Composed}
use Rattle.compose_finish.specs.Steps.Finishing.{Finished}
use Rattle.tray_cut.specs.Choosing.{CanCut, SlipsWritten}
use Rattle.tray_cut.proofs.CutTray.{cut_tray, slips_cut}

module _ (s es M : List ℕ) (h : CanCut s es M) (a b : List ℕ) (n : ℕ)
    (W : SlipsWritten s es M 0 (replicate max_letters 0) a (replicate max_slips 0) b n) where
  pub cut_can : (w : List ℕ) → work_need ≤ length w → Buildable (take n a) (take (length M) b) w
  cut_can w room = record { tray = cut_tray s es M h a b n W; room = room }

  pub cut_finished : (g : Settings) (w w' l l' : List ℕ) (j p : ℕ) (r : Composed)
      → Finished (whole g (slips_of (take n a) (take (length M) b))) w w' l l' j p r → Finished (whole g (only (slips_of s es) M)) w w' l l' j p r
  cut_finished g w w' l l' j p r F = subst (λ (xs : List (List ℕ)). Finished (whole g xs) w w' l l' j p r) (slips_cut s es M h a b n W) F
