-- The ways through the call.
--   says_tray, says_room, says_all == 21, 1 to 6 and 22; 7; what is behind them
use mathlib.Core.Path.{◌≡◌, refl, sym, ap, ◌∙◌}
use mathlib.Core.List.{List, ◌∷◌}
use Prim.Native.Nat.{ℕ, suc, ◌≤◌, ◌<◌}
use lib.ListN.{length}
use Rattle.trays.specs.declared.Refusal.{Refusal}
use Rattle.trays.specs.Limits.{work_need}
use Rattle.trays.specs.declared.Settings.{Settings}
use Rattle.trays.specs.Slips.{slips_of}
use native.Mathlib.Omega.{arith}
use Rattle.trays.specs.Faults.{refusal, accepted}
use Rattle.trays.specs.declared.fault.Fault.{Fault}
use Rattle.trays.specs.Told.{told}
use Rattle.trays.proofs.Told.{told_speaks}
use Rattle.trays.specs.Sides.{sided_rows, sided_fault}
use Rattle.trays.proofs.Rows.{speaking}
use Rattle.trays.proofs.SidedTrays.{sided_tells}
use Rattle.greedy.specs.Composing.{Composing, sided}
use Rattle.answers.specs.WorkArea.{work_row}
use Rattle.answers.specs.declared.Shortest.{Shortest}
use Rattle.answers.specs.Composing.{before_c}
use Rattle.answers.specs.Shortest.{shortest_rows, shortest_fault, shortest_of, shortest_refused, ShortestSays}
use Rattle.answers.specs.Steps.Sides.{SideAsks}
use Rattle.answers.proofs.BeforeC.{rows-first, work_first, rows_left, work_same, work_kept}
use Rattle.shortest_core.specs.Steps.Seeking.{Finished}
use Rattle.shortest_core.proofs.WriteSteps.{turned_back_lem}

-- where the settings, the tray and its sides are accepted
module _ (g : Settings) (s es cs w : List ℕ) (e : accepted ≡ sided_fault g.least g.side s es cs) where
  silent : (sided_fault g.least g.side s es cs).number ≡ 0
  silent = ap (λ (f : Refusal). f.number) (sym e)

  pub side_asks : work_need ≤ length w → SideAsks s es cs w
  side_asks room = record { accepted = (sided_tells g.least g.side s es cs silent).accepted; room = room }

module _ (g : Settings) (s es cs w l : List ℕ) (r : Shortest) where
  abbrev c : Composing
  c = sided g cs (slips_of s es)

  abbrev before : List Refusal
  before = sided_rows g.least g.side s es cs

  refused_before : (f : Refusal) (n d : ℕ) → f ≡ refusal (suc n) d → shortest_fault g s es cs (length w) (length l) ≡ f → r ≡ shortest_refused f →
      ShortestSays g s es cs w w l l r
  unfolding shortest_of
  refused_before f n d e h q =
      let (answer, legend) = turned_back_lem c l f n d e in
      record { answer-is = q ∙ rw h answer; legend_is = rw h legend; work_is = work_same (before_c g s es cs (length w)) w }

  pub says_tray : (x : Fault) → told x ≡ sided_fault g.least g.side s es cs → r ≡ shortest_refused (told x) → ShortestSays g s es cs w w l l r
  unfolding shortest_fault sided_fault
  says_tray x e q =
      let z : (told x).number ≡ 0 → ⊥ = λ z. absurd (omega (arith, told_speaks x)) in
      let (n, h) = speaking (told x) z in
      refused_before (told x) n (told x).detail h (rows-first before (work_row (length w) ∷ shortest_rows c (length l)) (told x) e z) q

  module _ (e : accepted ≡ sided_fault g.least g.side s es cs) where
    abbrev quiet : (sided_fault g.least g.side s es cs).number ≡ 0
    quiet = silent g s es cs w e

    pub says_room : length w < work_need → r ≡ shortest_refused (refusal 7 0) → ShortestSays g s es cs w w l l r
    unfolding shortest_fault sided_fault
    says_room h q = refused_before (refusal 7 0) 6 0 refl (work_first before quiet (length w) (shortest_rows c (length l)) h) q

    module _ (room : work_need ≤ length w) where
      pub says_all : (w' l' : List ℕ) → Finished c w w' l l' r → ShortestSays g s es cs w w' l l' r
      unfolding shortest_fault shortest_of sided_fault before_c
      says_all w' l' F =
          let rows = rows_left before quiet (length w) (shortest_rows c (length l)) room in
          record {
            answer-is = rw rows F.outcome.answer-is;
            legend_is = rw rows F.outcome.legend_is;
            work_is = work_kept before quiet w w' room F.same;
          }
