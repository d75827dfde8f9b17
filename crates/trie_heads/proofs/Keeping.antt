-- What the cells below a table are after a table is cleared, a cell is written, or a list gets one more number.
use mathlib.Core.Path.{◌≡◌, refl, sym, ◌∙◌}
use mathlib.Core.List.{List}
use Prim.Native.Nat.{ℕ, ◌≤◌, ◌<◌}
use native.Mathlib.Omega.{arith}
use lib.ListN.{replicate}
use Rattle.tables.specs.Tables.{Put, Filled}
use Rattle.tables.proofs.Tables.{put_only, filled_at, replicate_at}
use Rattle.layout.specs.Tables.{cell}
use Rattle.layout.specs.Numbered.{SameBelow}
use Rattle.layout.proofs.Frames.{only_kept}
use Rattle.trie_heads.specs.Steps.Heads.{Pushed}

pub kept_refl : {b : ℕ} {w : List ℕ} → SameBelow b w w
kept_refl = record { same = refl; cells = λ p h. refl }

pub kept_trans : {b : ℕ} {u v w : List ℕ} → SameBelow b u v → SameBelow b v w → SameBelow b u w
kept_trans f g = record { same = g.same ∙ f.same; cells = λ p h. g.cells p h ∙ f.cells p h }

pub kept_filled : {b n : ℕ} {xs w w' : List ℕ} → Filled b n xs w w' → SameBelow b w w'
kept_filled {b} f = only_kept b f.only (λ p c. c.from)

pub cleared : {b n v : ℕ} {w w' : List ℕ} → Filled b n (replicate n 0) w w' → v < n → cell w' b v ≡ 0
cleared {n = n} {v = v} f h = filled_at v f h ∙ sym (replicate_at n v 0 h)

pub kept_put : {b i x : ℕ} {w w' : List ℕ} → Put w b i x w' → SameBelow b w w'
kept_put {b} p = only_kept b (put_only p) (λ q e. omega arith)

pub kept_pushed : {b u c p i : ℕ} {w w' : List ℕ} → b ≤ c → Pushed w b u c p i w' → SameBelow b w w'
kept_pushed h x = record { same = x.same; cells = λ p l. x.others p (λ e. omega arith) (λ e. omega arith) }
