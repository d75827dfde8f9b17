-- The loop that copies cells: at its start, one turn, and its end.
use mathlib.Core.Path.{◌≡◌, refl}
use mathlib.Core.List.{List}
use Prim.Native.Nat.{ℕ, ◌+◌, ◌<◌}
use native.Mathlib.Omega.{arith}
use lib.ListN.{get_or, set}
use Rattle.words.specs.Lists.{over}
use Rattle.words.proofs.Buffers.{over-set}
use Rattle.tables.specs.Tables.{table}
use Rattle.tables.proofs.Tables.{table-length, table_more}
use Rattle.tables.specs.Copying.{CanCopy}

pub cells_more : (w old out : List ℕ) (base i n : ℕ) → CanCopy w base n old → i < n → out ≡ over (table w base i) old →
    set out i (get_or w (base + i) 0) ≡ over (table w base (i + 1)) old
cells_more w old out base i n a h e =
    rw (e, table_more w base i (i + 1) (omega (arith, a.there)) refl)
    (over-set 0 (table w base i) old i (get_or w (base + i) 0) (table-length w base i (omega (arith, a.there))) (omega (arith, a.room)))

pub cells_none : (w old : List ℕ) (base : ℕ) → old ≡ over (table w base 0) old
unfolding table
cells_none w old base = refl
