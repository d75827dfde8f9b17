-- An order of slips of the tray can be laid.
use mathlib.Core.List.{List, [], ◌∷◌}
use Prim.Native.Nat.{ℕ, ◌≤◌}
use lib.ListN.{length}
use Rattle.words.proofs.Sums.{All}
use Rattle.trays.specs.Slips.{slips_of, slip}
use Rattle.greedy.specs.Legends.{Piece}
use Rattle.greedy.proofs.Letters.{Order, over-most}
use Rattle.legend_lay.specs.Laying.{PieceFits}

pub order_fits :
    (s es : List ℕ) (ps : List Piece) (x : List ℕ) → Order (slips_of s es) x ps → All (λ p. (1 ≤ p.number) × (p.number ≤ length es)) ps
    → All (PieceFits s es) ps
order_fits s es [] x o a = tt
order_fits s es (p ∷ ps) x o a = (
  record { some = a.0.0; most = a.0.1; within = over-most x p.overlap (slip (slips_of s es) p.number) o.0 },
  order_fits s es ps (slip (slips_of s es) p.number) o.1 a.1,
)
