-- Staging the pieces, and writing the places, step by step through the parts of the work area.
use mathlib.Core.Path.{◌≡◌, refl, ◌∙◌, ap}
use mathlib.Core.List.{List}
use Prim.Native.Nat.{ℕ, ◌+◌, ◌-◌, ◌*◌, ◌≤◌}
use native.Mathlib.Omega.{arith}
use lib.ListN.{length, take, drop, replicate, length-replicate}
use borrow.Rule.Slice.PartMut.{put_mid}
use Rattle.tables.specs.Tables.{table, Filled}
use Rattle.tables.proofs.Tables.{part_table, part_filled}
use Rattle.trays.specs.Limits.{max_slips, work_need}
use Rattle.trays.specs.Slips.{slips_of}
use Rattle.trays.proofs.Accepted.{accepted_tells}
use Rattle.legend_chains.specs.Pieces.{pieces_in}
use Rattle.legend_chains.specs.Chains.{pieces_by, PiecesAsk}
use Rattle.legend_chains.specs.Pieces.{PiecesBehind}
use Rattle.legend_places.specs.Places.{placed_by, aside_by, PlacesAsk, AsideAsk}
use Rattle.legend_places.proofs.PlacesAre.{placed_length, aside_length}
use Rattle.layout.specs.Layout.{KEPT, PLACES, all_places}
use Rattle.answers.specs.Composing.{place_cells}
use Rattle.legend_write.specs.Steps.Writing.{pieces_here, StageAsks, PiecesStaged, places_here, PlacingAsks, PlacesWritten}

-- the part `&work[KEPT..KEPT + MAX_SLIPS]` is the table
kept_part_lem : (w : List ℕ) → take (KEPT + max_slips - KEPT) (drop KEPT w) ≡ table w KEPT max_slips
kept_part_lem w = part_table w KEPT max_slips (KEPT + max_slips) refl

module _ (w : List ℕ) (k j : ℕ) (left right overs : List ℕ) where
  pub stage_asks : StageAsks w k j left right overs →
      PiecesAsk (take (KEPT + max_slips - KEPT) (drop KEPT w)) k left right overs (j + 1) (replicate (2 * max_slips) 0)
  stage_asks a = rw (kept_part_lem w) a.asks

  pub stage_gives : (xs : List ℕ) (r : ℕ) →
      PiecesBehind (pieces_by left right overs (j + 1) (take k (take (KEPT + max_slips - KEPT) (drop KEPT w)))) 0 (replicate (2 * max_slips) 0) xs r →
      PiecesStaged w k j left right overs xs
  stage_gives xs r f =
      let g : PiecesBehind (pieces_here w k j left right overs) 0 (replicate (2 * max_slips) 0) xs r = rw (kept_part_lem w) at f in
      let e : r ≡ length (pieces_here w k j left right overs) = omega (arith, g.count_is) in
      record { size = g.same ∙ length-replicate {A = ℕ} (2 * max_slips) 0; are = rw (← e) g.pieces_are }

-- the part `&mut work[PLACES..PLACES + ALL_PLACES]`, lent and come back
abbrev mine : List ℕ → List ℕ
mine w = take (PLACES + all_places - PLACES) (drop PLACES w)

abbrev back : List ℕ → List ℕ → List ℕ
back w ys = put_mid PLACES (PLACES + all_places - PLACES) w ys

mine_is : (w : List ℕ) → mine w ≡ table w PLACES all_places
mine_is w = part_table w PLACES all_places (PLACES + all_places) refl

back_is : (w ys : List ℕ) → work_need ≤ length w → length ys ≡ all_places → Filled PLACES all_places ys w (back w ys)
back_is w ys room l = part_filled w PLACES all_places (PLACES + all_places) ys refl (omega arith) l

module _ (s es w t xs : List ℕ) (k : ℕ) (a : PlacingAsks s es w t xs k) (w₁ : List ℕ) (f : Filled PLACES all_places (replicate all_places 0) w w₁) where
  abbrev ss : List (List ℕ)
  ss = slips_of s es

  few : place_cells * length es ≤ all_places
  few = omega (arith, (accepted_tells s es a.pieces.tray).few)

  long : length w₁ ≡ length w
  long = f.only.same

  blank : mine w₁ ≡ replicate all_places 0
  blank = mine_is w₁ ∙ f.cells

  blank-length : length (mine w₁) ≡ all_places
  blank-length = rw blank (length-replicate {A = ℕ} all_places 0)

  pub places_asks : PlacesAsk s es xs k (mine w₁)
  places_asks =
      record { tray = a.pieces.tray; pairs = a.pieces.pairs; places = omega (arith, few, blank-length); fits = a.pieces.places }

  module _ (p₁ : List ℕ) (e₁ : p₁ ≡ placed_by ss (mine w₁) 1 (pieces_in xs 0 k)) where
    first-length : length p₁ ≡ all_places
    first-length = rw e₁ (placed_length ss (pieces_in xs 0 k) (mine w₁) 1 ∙ blank-length)

    first : Filled PLACES all_places p₁ w₁ (back w₁ p₁)
    first = back_is w₁ p₁ (omega (arith, a.room, long)) first-length

    again : mine (back w₁ p₁) ≡ p₁
    again = mine_is (back w₁ p₁) ∙ first.cells

    pub aside_asks : AsideAsk s es t (mine (back w₁ p₁))
    aside_asks =
        record {
          tray = a.pieces.tray;
          short = omega (arith, ap length a.legend_is, a.pieces.short);
          places = omega (arith, few, ap length again, first-length);
        }

    module _ (p₂ : List ℕ) (e₂ : p₂ ≡ aside_by ss t (mine (back w₁ p₁)) (length es)) where
      second_is : p₂ ≡ places_here s es xs k
      second_is = e₂ ∙ rw (again, e₁, blank, a.legend_is)

      second_length : length p₂ ≡ all_places
      second_length = rw (e₂, again) (aside_length ss t p₁ (length es) ∙ first-length)

      second : Filled PLACES all_places p₂ (back w₁ p₁) (back (back w₁ p₁) p₂)
      second = back_is (back w₁ p₁) p₂ (omega (arith, a.room, long, first.only.same)) second_length

      pub places_same : length (back (back w₁ p₁) p₂) ≡ length w
      places_same = second.only.same ∙ first.only.same ∙ long

      pub places_given : PlacesWritten s es w (back (back w₁ p₁) p₂) xs k
      places_given =
          record {
            below =
                record {
                  same = places_same;
                  cells = λ p h.
                      second.only.kept p (λ q. absurd (omega (arith, q.from)))
                      ∙ first.only.kept p (λ q. absurd (omega (arith, q.from)))
                      ∙ f.only.kept p (λ q. absurd (omega (arith, q.from)));
                };
            places_are = second.cells ∙ second_is;
          }
