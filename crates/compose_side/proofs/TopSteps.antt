-- From the check of the tray and its sides to the slips of the side, and to the answer.
--   side_finished == what is composed of the slips of the side is the side
--   staged-..  == the ways through the call
use mathlib.Core.Path.{◌≡◌, refl, sym, ◌∙◌, ap, subst}
use mathlib.Core.List.{List, ◌∷◌}
use Prim.Native.Nat.{ℕ, suc, ◌≤◌, ◌<◌}
use lib.ListN.{length, take}
use Rattle.trays.specs.declared.Refusal.{Refusal}
use Rattle.trays.specs.declared.Settings.{Settings}
use Rattle.trays.specs.Limits.{work_need}
use Rattle.trays.specs.Slips.{slips_of}
use Rattle.trays.specs.Faults.{refusal, accepted}
use Rattle.trays.specs.declared.fault.Fault.{Fault}
use Rattle.trays.specs.Told.{told}
use Rattle.trays.proofs.Told.{told_speaks}
use native.Mathlib.Omega.{arith}
use Rattle.trays.specs.Sides.{sided_rows, sided_fault}
use Rattle.trays.proofs.Rows.{speaking}
use Rattle.trays.proofs.SidedTrays.{sided_tells}
use Rattle.greedy.specs.Composing.{Composing, among, sided}
use Rattle.answers.specs.WorkArea.{work_row}
use Rattle.answers.specs.declared.Composed.{Composed}
use Rattle.answers.specs.Composing.{before_c, room_rows, compose_fault, composed_of, refused_by}
use Rattle.answers.specs.Steps.Sides.{SideAsks}
use Rattle.answers.proofs.BeforeC.{rows-first, work_first, rows_left, work_same, work_kept}
use Rattle.compose_finish.proofs.FinishSteps.{turned_back_lem, not_composed}
use Rattle.tray_cut.specs.declared.Chosen.{Chosen}
use Rattle.tray_cut.specs.Choosing.{SideSlips}
use Rattle.compose_side.specs.Steps.Sides.{SideFinished, Staged}

-- the numbers chosen are those of the side
pub side_finished : (g : Settings) (cs : List ℕ) (o : Chosen) → SideSlips cs g.side o → (ss : List (List ℕ)) (w w' l l' : List ℕ) (j p : ℕ) (r : Composed)
    → SideFinished (among g (take o.count o.slips) ss) g.side w w' l l' j p r → SideFinished (sided g cs ss) g.side w w' l l' j p r
side_finished g cs o S ss w w' l l' j p r F =
    subst (λ (M : List ℕ). SideFinished (among g M ss) g.side w w' l l' j p r) S.slips_are F

-- where the settings, the tray and its sides are accepted
module _ (g : Settings) (s es cs w : List ℕ) (e : accepted ≡ sided_fault g.least g.side s es cs) where
  pub silent : (sided_fault g.least g.side s es cs).number ≡ 0
  silent = ap (λ (f : Refusal). f.number) (sym e)

  pub least_some : 1 ≤ g.least
  least_some = (sided_tells g.least g.side s es cs silent).some

  pub side_asks : work_need ≤ length w → SideAsks s es cs w
  side_asks room = record { accepted = (sided_tells g.least g.side s es cs silent).accepted; room = room }

-- the rows before place C
module _ (g : Settings) (s es cs w l : List ℕ) (jr pr : ℕ) (r : Composed) where
  abbrev c : Composing
  c = sided g cs (slips_of s es)

  abbrev before : List Refusal
  before = sided_rows g.least g.side s es cs

  refused_before : (f : Refusal) (n d : ℕ) → f ≡ refusal (suc n) d → compose_fault g s es cs (length w) (length l) jr pr ≡ f → r ≡ refused_by f →
      Staged g s es cs w w l l jr pr r
  unfolding composed_of
  refused_before f n d e h q =
      let (answer, legend) = turned_back_lem c l f n d e in
      record {
        answer-is = q ∙ rw h answer;
        legend_is = rw h legend;
        work_is = work_same (before_c g s es cs (length w)) w;
        joins_are = λ z. absurd (not_composed f n d r e q z);
        records_are = λ z. absurd (not_composed f n d r e q z);
      }

  pub staged_tray : (x : Fault) → told x ≡ sided_fault g.least g.side s es cs → r ≡ refused_by (told x) → Staged g s es cs w w l l jr pr r
  unfolding compose_fault sided_fault
  staged_tray x e q =
      let z : (told x).number ≡ 0 → ⊥ = λ z. absurd (omega (arith, told_speaks x)) in
      let (n, h) = speaking (told x) z in
      refused_before (told x) n (told x).detail h (rows-first before (work_row (length w) ∷ room_rows c (length l) jr pr) (told x) e z) q

  module _ (e : accepted ≡ sided_fault g.least g.side s es cs) where
    abbrev quiet : (sided_fault g.least g.side s es cs).number ≡ 0
    quiet = silent g s es cs w e

    pub staged_room : length w < work_need → r ≡ refused_by (refusal 7 0) → Staged g s es cs w w l l jr pr r
    unfolding compose_fault sided_fault
    staged_room h q = refused_before (refusal 7 0) 6 0 refl (work_first before quiet (length w) (room_rows c (length l) jr pr) h) q

    module _ (room : work_need ≤ length w) where
      pub staged_all : (w' l' : List ℕ) → SideFinished c g.side w w' l l' jr pr r → Staged g s es cs w w' l l' jr pr r
      unfolding compose_fault composed_of sided_fault before_c
      staged_all w' l' t =
          let rows = rows_left before quiet (length w) (room_rows c (length l) jr pr) room in
          record {
            answer-is = rw rows t.answer-is;
            legend_is = rw rows t.legend_is;
            work_is = work_kept before quiet w w' room t.same;
            joins_are = t.joins_are;
            records_are = t.records_are;
          }
