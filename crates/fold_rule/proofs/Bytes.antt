-- Tests over all bytes, which antt computes at once, and what they say of each byte.
--   at_byte     == what holds of no byte does not hold of this one
--   fold-table  == a table that differs from the rule at no byte has the rule
use mathlib.Core.Path.{◌≡◌}
use mathlib.Core.Bool.{Bool, false}
use Prim.Native.Nat.{ℕ, ◌<◌}
use borrow.Author.Tests.{eqb-true, not-false}
use native.Mathlib.Omega.{arith}
use lib.Dec.{eqb}
use lib.ListN.{get_or}
use Rattle.words.specs.Lists.{any, up_from}
use Rattle.words.proofs.Members.{up_from_in, none_any}
use Rattle.fold_rule.specs.Folding.{fold}
use Rattle.fold_rule.specs.Claims.{differs, FoldTable}

pub at_byte : (t : ℕ → Bool) → any t (up_from 0 256) ≡ false → (b : ℕ) → b < 256 → t b ≡ false
at_byte t e b h = none_any t (up_from 0 256) e b (up_from_in 0 256 b (omega arith) h)

pub fold-table : FoldTable
fold-table t e b h = eqb-true (get_or t b 0) (fold b) (not-false (eqb (get_or t b 0) (fold b)) (at_byte (differs t) e b h))
