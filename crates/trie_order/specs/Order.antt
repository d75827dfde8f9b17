-- The members of a tray in the order of their letters: a prefix before its longer slips, equal slips by number.
--   commons ss p M      == for each member of M the length of the common prefix with the member before it, p for the first
--   CommonAt ss M i r   == r is the entry for the member at place i; it fits 16 bits
--   below b t x i       == a slip i with letters x stands below the bound b of the typed letters t:
--                          below Lower, where the slips with prefix t start; below Upper, where they end;
--                          below Number k, where a slip k with letters t stands
--   rank_of ss M t b     == how many of the members M stand below the bound
--   Within n M          == the members of M are numbers from 1 to n
--   Falling p M         == a member of M that stands before one that passes the test p passes it too
--   Members s es M      == the tray is accepted, and M are numbers of its slips
--   Sortable s es M     == and no two of them are equal
--   Rankable s es M t b == and those below the bound stand first
use Rattle.std.specs.Prelude.{◌≡◌, Bool, true, ◌&&◌, ◌||◌, ℕ, ◌≤◌, ◌<◌, ltb, length, get_or}
use mathlib.Core.List.{List, [], ◌∷◌, Memᴰ}
use Rattle.words.specs.Lists.{those}
use Rattle.words.specs.Words.{same, begins, before, common}
pub use Rattle.words.specs.Steps.Members.{Distinct}
use Rattle.trays.specs.Slips.{slip, slips_of}
use Rattle.trays.specs.Faults.{tray_fault}
pub use Rattle.index_rule.specs.Index.{precedes}
use Rattle.trie_order.specs.declared.Bound.{Bound}
use Rattle.trie_order.specs.declared.Bound.TheVariants.{Lower, Upper, Number}

-- slip 0 has no letters, so that `commons ss 0` has 0 for the first member
abbrev pub commons : List (List ℕ) → ℕ → List ℕ → List ℕ
commons ss p [] = []
commons ss p (i ∷ M) = common (slip ss p) (slip ss i) ∷ commons ss i M

pub record CommonAt (ss : List (List ℕ)) (M : List ℕ) (i r : ℕ) : Type 0 where
  pub is : r ≡ get_or (commons ss 0 M) i 0
  pub small : r < 65536

abbrev pub below : Bound → List ℕ → List ℕ → ℕ → Bool
below Lower t x i = before x t
below Upper t x i = before x t || begins t x
below (Number k) t x i = before x t || (same x t && ltb i k)

abbrev pub rank_of : List (List ℕ) → List ℕ → List ℕ → Bound → ℕ
rank_of ss M t b = length (those (λ i. below b t (slip ss i) i) M)

pub record Within (n : ℕ) (M : List ℕ) : Type 0 where
  pub each : (i : ℕ) → Memᴰ i M → (1 ≤ i) × (i ≤ n)

abbrev pub Falling : (ℕ → Bool) → List ℕ → Type 0
Falling p M = (j k : ℕ) → j < k → k < length M → p (get_or M k 0) ≡ true → p (get_or M j 0) ≡ true

pub record Members (s es M : List ℕ) : Type 0 where
  pub accepted : (tray_fault s es).number ≡ 0
  pub within : Within (length es) M

pub record Sortable (s es M : List ℕ) : Type 0 where
  pub members : Members s es M
  pub distinct : Distinct M

pub record Rankable (s es M t : List ℕ) (b : Bound) : Type 0 where
  pub members : Members s es M
  pub falling : Falling (λ i. below b t (slip (slips_of s es) i) i) M
