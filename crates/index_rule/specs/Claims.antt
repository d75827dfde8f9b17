-- What is claimed of the index of beginnings, for the slips of any tray.
--   IsIndex ss x  == x has the numbers of all slips and no others, in order: an index of the tray
--   Indexed ss    == the tray has one, `index_of`; and of it a stretch is what the typed letters give
--   Indexes       == so for any slips
use Rattle.std.specs.Prelude.{◌≡◌, true, ℕ, ◌≤◌, ◌<◌, length, get_or, take, drop}
use mathlib.Core.List.{List, [], Memᴰ}
use Rattle.words.specs.Words.{begins}
use Rattle.trays.specs.Slips.{slip}
use Rattle.index_rule.specs.Index.{precedes, index_of, stretch_for, start_at}

pub record IsIndex (ss : List (List ℕ)) (x : List ℕ) : Type 0 where
  pub ordered : (j k : ℕ) → j < k → k < length x → precedes ss (get_or x j 0) (get_or x k 0) ≡ true
  pub all : (i : ℕ) → 1 ≤ i → i ≤ length ss → Memᴰ i x
  pub only : (i : ℕ) → Memᴰ i x → (1 ≤ i) × (i ≤ length ss)

pub record Indexed (ss : List (List ℕ)) : Type 0 where
  pub is_index : IsIndex ss (index_of ss)
  pub one_index : (x : List ℕ) → IsIndex ss x → x ≡ index_of ss
  -- the slips that start with t are one stretch of the index: nothing else stands among them
  pub part : (t : List ℕ) → take (length (stretch_for ss t)) (drop (start_at ss t) (index_of ss)) ≡ stretch_for ss t
  -- nothing missing
  pub holds : (t : List ℕ) (i : ℕ) → 1 ≤ i → i ≤ length ss → begins t (slip ss i) ≡ true → Memᴰ i (stretch_for ss t)
  -- nothing added
  pub only : (t : List ℕ) (i : ℕ) → Memᴰ i (stretch_for ss t) → (1 ≤ i) × (i ≤ length ss) × (begins t (slip ss i) ≡ true)
  -- the empty beginning is the whole list
  pub whole : stretch_for ss [] ≡ index_of ss

abbrev pub Indexes : Type 0
Indexes = (ss : List (List ℕ)) → Indexed ss
