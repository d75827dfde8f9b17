-- Places written piece by piece, and slip by slip.
--   Placing .. q here xs  == q pieces are placed, the next letters go from `here` on, and placing the others completes xs
use mathlib.Core.Path.{◌≡◌, ◌∙◌, ap}
use mathlib.Core.List.{List, ◌∷◌}
use Prim.Native.Nat.{ℕ, suc, ◌+◌, ◌-◌, ◌≤◌, ◌<◌}
use native.Mathlib.Numerals.{add-one}
use native.Mathlib.Omega.{arith}
use lib.ListN.{length}
use Rattle.trays.specs.Limits.{max_slip}
use Rattle.trays.specs.Slips.{slips_of, slip}
use Rattle.trays.proofs.Spans.{accepted_spanned}
use Rattle.greedy.specs.Legends.{lowest, tried}
use Rattle.greedy.proofs.Tried.{lowest-most, tried-most}
use Rattle.legend_chains.specs.Pieces.{piece_in, pieces_in}
use Rattle.legend_places.specs.Places.{placed_by, Placeable, PlacesAsk}
use Rattle.legend_places.specs.Steps.OnePlace.{PlacedOne, AsidePlaceAsks}
use Rattle.legend_places.proofs.PlacesAre.{put-length}

-- the pieces in turn
pub record Placing (s es ps : List ℕ) (n : ℕ) (xs₀ : List ℕ) (q here : ℕ) (xs : List ℕ) : Type 0 where
  pub most : q ≤ n
  pub done : placed_by (slips_of s es) xs here (pieces_in ps q (n - q)) ≡ placed_by (slips_of s es) xs₀ 1 (pieces_in ps 0 n)
  pub fits : Placeable s es here (pieces_in ps q (n - q))
  pub same : length xs ≡ length xs₀

module _ (s es ps : List ℕ) (n : ℕ) (xs₀ : List ℕ) (a : PlacesAsk s es ps n xs₀) where
  module _ (q here : ℕ) (xs : List ℕ) (l : q < n) (p : Placing s es ps n xs₀ q here xs) where
    rest : pieces_in ps q (n - q) ≡ piece_in ps q ∷ pieces_in ps (suc q) (n - suc q)
    rest = let e : n - q ≡ suc (n - suc q) = omega arith in rw e

    fits_rest : Placeable s es here (piece_in ps q ∷ pieces_in ps (suc q) (n - suc q))
    fits_rest = rw rest at p.fits

    pub placing_turn : (xs' : List ℕ) (r : ℕ) → PlacedOne (slips_of s es) (piece_in ps q) here xs xs' r → Placing s es ps n xs₀ (q + 1) r xs'
    placing_turn xs' r o =
        let d : placed_by (slips_of s es) xs here (piece_in ps q ∷ pieces_in ps (suc q) (n - suc q)) ≡ placed_by (slips_of s es) xs₀ 1 (pieces_in ps 0 n) =
        rw rest at p.done in
        rw (add-one q)
        (record {
          most = l;
          done = rw (o.places_are, o.next_is) d;
          fits = rw o.next_is fits_rest.5;
          same = ap length o.places_are ∙ put-length xs _ _ _ _ ∙ p.same;
        })

-- slips set aside: what the trial asks, and what its numbers are
module _ (s es t : List ℕ) (i : ℕ) (xs : List ℕ) (a : AsidePlaceAsks s es t i xs) (part : List ℕ) (h : part ≡ slip (slips_of s es) (i + 1)) where
  pub part_some : 1 ≤ length part
  part_some = rw h ((accepted_spanned s es a.tray).some (i + 1) (omega arith) (omega (arith, a.slips)))

  pub part_short : length part ≤ max_slip
  part_short = rw h ((accepted_spanned s es a.tray).short (i + 1) (omega arith) (omega (arith, a.slips)))

  pub place_small : (r : ℕ) → r ≡ lowest 1 part t → r < 65536
  place_small r l = omega (arith, lowest-most 1 part t, a.short)

  pub count_small : (n : ℕ) → n ≡ tried part t → n < 65536
  count_small n l = omega (arith, tried-most max_slip part t part_short, a.short)
