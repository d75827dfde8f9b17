-- Lists of members through the tables HEAD and TWIN, and how one more number goes before a list.
--   Among .. i                 == i is one of the members
--   Pushed w h u x p i w'      == w' is w with i put before the list of node u, whose heads stand at h, and the rest of it at place p of x
--   Lists P key head next list == for every v of P: from head v along next run the numbers of list v, where next of r stands at key v r
use Rattle.std.specs.Prelude.{◌≡◌, List, ℕ, ◌+◌, ◌<◌, length, get_or}
use Rattle.words.specs.Steps.Members.{In}
use Rattle.layout.specs.Layout.{HEAD}
use Rattle.layout.specs.Tables.{cell, members, Threaded}
use Rattle.layout.specs.Numbered.{Automaton, SameBelow, Headed}

-- a member of the automaton
pub record Among (s es : List ℕ) (n nodes : ℕ) (w : List ℕ) (i : ℕ) : Type 0 where
  pub automaton : Automaton s es n nodes w
  pub member : In i (members w n)

-- one more number before a list
pub record CanPush (w : List ℕ) (heads u nexts p i : ℕ) : Type 0 where
  pub head : heads + u < nexts
  pub next : nexts + p < length w
  pub small : i < 65536

pub record Pushed (w : List ℕ) (heads u nexts p i : ℕ) (w' : List ℕ) : Type 0 where
  pub same : length w' ≡ length w
  pub head : cell w' heads u ≡ i
  pub next : cell w' nexts p ≡ cell w heads u
  pub others : (q : ℕ) → (q ≡ heads + u → ⊥) → (q ≡ nexts + p → ⊥) → get_or w' q 0 ≡ get_or w q 0

-- lists threaded through a table
abbrev pub Lists : (ℕ → Type 0) → (ℕ → ℕ → ℕ) → (ℕ → ℕ) → (ℕ → ℕ) → (ℕ → List ℕ) → Type 0
Lists P key head next list = (v : ℕ) → P v → Threaded (λ r. next (key v r)) (head v) (list v)

-- HEAD, TWIN
pub record HeadsFilled (s es : List ℕ) (n nodes : ℕ) (w w' : List ℕ) : Type 0 where
  pub headed : Headed s es n nodes w'
  pub below : SameBelow HEAD w w'
