-- From an accepted tray to the last step.
use mathlib.Core.Path.{◌≡◌, refl, ◌∙◌}
use mathlib.Core.List.{List}
use Prim.Native.Nat.{ℕ}
use native.Mathlib.Omega.{arith}
use lib.ListN.{length}
use Rattle.tables.proofs.Tables.{cells-below}
use Rattle.trays.specs.declared.Settings.{Settings}
use Rattle.trays.specs.Slips.{slips_of, numbers}
use Rattle.trays.specs.Aside.{kept}
use Rattle.trays.specs.Sides.{blank_side}
use Rattle.greedy.specs.Composing.{whole}
use Rattle.layout.specs.Layout.{KEPT}
use Rattle.layout.specs.Tables.{members}
use Rattle.layout.specs.Staging.{kept_in}
use Rattle.layout.proofs.Frames.{members_kept}
use Rattle.trie_build.specs.Steps.Built.{Buildable, Built}
use Rattle.kept_lists.specs.Steps.KeptLists.{ListsFilled}
use Rattle.walk_offer.specs.declared.Marks.{Marks}
use Rattle.walk.specs.Steps.Walking as W
use Rattle.answers.specs.declared.Composed.{Composed}
use Rattle.compose_finish.specs.Steps.Finishing.{Joined, SomeJoined, Finished, FinishedAs}

module _ (s es w : List ℕ) (a : Buildable s es w) (nodes : ℕ) (w₁ : List ℕ) (b : Built s es w nodes w₁) (k : ℕ) (w₂ : List ℕ)
    (l : ListsFilled s es (length es) nodes w₁ k w₂) where
  members_are : members w₂ (length es) ≡ numbers (slips_of s es)
  members_are = members_kept (length es) (omega (arith, l.staged.automaton.branched.numbered.few_members)) l.below ∙ b.all_slips

  module _ (m : ℕ) (w₃ : List ℕ) (marks : Marks) (j : ℕ) (d : W.Walked m s es k w₂ w₃ marks j) where
    kept_now : kept_in w₂ k ≡ kept (slips_of s es) (numbers (slips_of s es))
    kept_now = l.staged.kept_are ∙ rw members_are

    long : length w₃ ≡ length w
    long = d.only.same ∙ l.below.same ∙ b.same

    joined_as : (g : Settings) → m ≡ g.least → Joined g s es w₃ k j marks.left marks.right marks.overs
    joined_as g e =
        record {
          walked =
              record {
                room = omega (arith, a.room, long);
                tray = a.tray;
                kept-is = cells-below KEPT k d.only (omega (arith, l.staged.few_kept)) ∙ kept_now;
                few_kept = l.staged.few_kept;
                joins_are = d.joins_are ∙ rw (kept_now, e);
                few_joins = omega (arith, d.few, l.staged.few_kept);
              };
          neighbours = d.neighbours;
        }

    pub finish_can : SomeJoined s es w₃ k j marks.left marks.right marks.overs
    finish_can = let g : Settings = record { least = m; side = blank_side } in record { settings = g; joined = joined_as g refl }

    module _ (w₄ l₀ l₁ : List ℕ) (jr pr : ℕ) (r : Composed) (f : FinishedAs s es w₃ w₄ l₀ l₁ k j marks.left marks.right marks.overs jr pr r) where
      finished_same : length w₄ ≡ length w
      finished_same = f.same ∙ long

      pub finished_all : (g : Settings) → m ≡ g.least → Finished (whole g (slips_of s es)) w w₄ l₀ l₁ jr pr r
      finished_all g e =
          let q = f.for_any g (joined_as g e) in
          record {
            answer-is = q.answer-is;
            legend_is = q.legend_is;
            same = finished_same;
            joins_are = q.joins_are;
            places_are = q.places_are;
          }
