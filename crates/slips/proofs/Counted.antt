-- The overlap and whether its string counts; the overlap of two slips.
use mathlib.Core.Path.{◌≡◌, sym, ◌∙◌}
use mathlib.Core.Bool.{Bool, true}
use mathlib.Core.List.{List}
use Prim.Native.Nat.{ℕ, ◌≤◌}
use native.Mathlib.Omega.{arith}
use lib.ListN.{length, take}
use lib.Seq.{length-take-le}
use Rattle.words.specs.Words.{overlap, overlap_for}
use Rattle.words.proofs.Overlaps.{overlap-fits, overlap_for-yes, overlap_for-fits}
use Rattle.trays.specs.Limits.{max_slip}
use Rattle.trays.specs.Slips.{slips_of, slip}
use Rattle.trays.specs.Aside.{not_stops, counted}
use Rattle.trays.proofs.Stops.{counted_long}
use Rattle.trays.proofs.Spans.{accepted_spanned}
use Rattle.slips.specs.Pairs.{TwoSlips, Overlap}

module _ (m : ℕ) (a b : List ℕ) (n : ℕ) (e : n ≡ overlap a b) where
  pub overlap_inside : n ≡ length (take n b)
  overlap_inside = sym (length-take-le n b (omega (arith, overlap-fits a b)))

  module _ (l : m ≤ n) (r : Bool) (h : r ≡ not_stops (take n b)) where
    long : counted m (take n b) ≡ r
    long = counted_long m (take n b) (omega (arith, overlap_inside)) ∙ sym h

    pub overlap-counted : r ≡ true → n ≡ overlap_for (counted m) a b
    overlap-counted t = e ∙ sym (overlap_for-yes (counted m) a b (rw e at (long ∙ t)))

pub two_slips :
    (m : ℕ) (s es : List ℕ) (l r : ℕ) → TwoSlips s es l r → (a b : List ℕ) (n : ℕ)
    → a ≡ slip (slips_of s es) l → b ≡ slip (slips_of s es) r → n ≡ overlap_for (counted m) a b → Overlap m s es l r n
two_slips m s es l r T a b n ha hb h =
    let k : length b ≤ max_slip = rw hb ((accepted_spanned s es T.tray).short r T.right_some T.right_most) in
    record { is = rw (h, ha, hb); short = omega (arith, overlap_for-fits (counted m) a b) }
