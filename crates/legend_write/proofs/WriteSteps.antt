-- Writing the legend, then the places.
use mathlib.Core.Path.{◌≡◌, sym, ◌∙◌, ap}
use mathlib.Core.List.{List}
use Prim.Native.Nat.{ℕ}
use native.Mathlib.Omega.{arith}
use lib.ListN.{length, take}
use lib.Seq.{take_at}
use Rattle.words.specs.Lists.{over}
use Rattle.legend_lay.specs.Laying.{CanLay}
use Rattle.legend_write.specs.Steps.Writing.{legend_here, PlacingAsks, PlacesWritten, WritingAsks, Written}

module _ (s es w l xs : List ℕ) (k need : ℕ) (a : WritingAsks s es w l xs k need) where
  pub lay_asks : CanLay s es xs 0 k (length l)
  lay_asks =
      record {
        tray = a.pieces.tray;
        pairs = omega (arith, a.pieces.pairs);
        fits = a.pieces.fits;
        room-is = omega (arith, a.need_is, a.space);
      }

  module _ (l₁ : List ℕ) (e : l₁ ≡ over (legend_here s es xs k) l) where
    first-is : take need l₁ ≡ legend_here s es xs k
    first-is = rw e (take_at (legend_here s es xs k) _ need (sym a.need_is))

    pub lent_count : need ≡ length (take need l₁)
    lent_count = a.need_is ∙ sym (ap length first-is)

    pub place_asks : PlacingAsks s es w (take need l₁) xs k
    place_asks = record { room = a.room; pieces = a.pieces; legend_is = first-is }

    pub written_out : (w' : List ℕ) → PlacesWritten s es w w' xs k → Written s es w w' l l₁ xs k
    written_out w' p = record { legend_is = e; placed = p }
