-- What the calls on the index of a tray answer, for every input: letters s, ends es, sides cs, a lent list x, typed letters t.
--   entries_row es n   == 9, where the lent list has n entries: fewer than slips
--   index_row ss x     == 23: the list handed in is another one than the index
--   build_fault .. n   == what refuses building the index: 1 to 6, 22, 9
--   begin_fault .. x t == what refuses looking up a beginning: 1 to 6, 22, 23, 12, 13
--   IndexBuilt        == what building promises: the refusal, and the lent list afterwards
--   found_of, found_start == the stretch handed out, and where it starts in the list; none and 0 if refused
--   Beginning         == what looking up promises
--   place_for          == the same as numbers: the refusal, and where the stretch starts and ends, 0 and 0 if refused
use Rattle.std.specs.Prelude.{◌≡◌, not, List, [], ◌∷◌, ◌++◌, ℕ, zero, suc, ◌+◌, ◌*◌, ltb, length}
use Rattle.words.specs.Words.{same}
use Rattle.trays.specs.declared.Refusal.{Refusal}
use Rattle.trays.specs.declared.Located.{Located}
use Rattle.trays.specs.Slips.{slips_of}
use Rattle.trays.specs.Faults.{row, first_row, text_rows, written}
use Rattle.trays.specs.Sides.{sided_tray_rows}
use Rattle.index_rule.specs.Index.{index_of, stretch_for, start_at}

-- Rules, refusals: where the index is built, the detail of 9 is the slips.
abbrev pub entries_row : List ℕ → ℕ → Refusal
entries_row es n = row 9 (ltb n (length es)) (length es)

-- Rules, index of beginnings: a list that is only longer or shorter is another one; no detail is named.
abbrev pub index_row : List (List ℕ) → List ℕ → Refusal
index_row ss x = row 23 (not (same x (index_of ss))) 0

unfoldable pub build_fault : List ℕ → List ℕ → List ℕ → ℕ → Refusal
build_fault s es cs n = first_row (sided_tray_rows s es cs ++ (entries_row es n ∷ []))

-- Rules, place B: 23 is checked after 22, and what is typed, as a text is, after 23.
unfoldable pub begin_fault : List ℕ → List ℕ → List ℕ → List ℕ → List ℕ → Refusal
begin_fault s es cs x t = first_row (sided_tray_rows s es cs ++ (index_row (slips_of s es) x ∷ text_rows t))

-- build_index: entries past the slips are as they were
pub record IndexBuilt (s es cs x x' : List ℕ) (r : Refusal) : Type 0 where
  pub answer-is : r ≡ build_fault s es cs (length x)
  pub index_is : x' ≡ written (build_fault s es cs (length x)) (index_of (slips_of s es)) x

abbrev pub found_of : List ℕ → List ℕ → List ℕ → List ℕ → List ℕ → List ℕ
found_of s es cs x t = elim (begin_fault s es cs x t).number [ zero ↦ stretch_for (slips_of s es) t | suc n ↦ [] ]

abbrev pub found_start : List ℕ → List ℕ → List ℕ → List ℕ → List ℕ → ℕ
found_start s es cs x t = elim (begin_fault s es cs x t).number [ zero ↦ start_at (slips_of s es) t | suc n ↦ 0 ]

-- an entry of the lent list takes this many bytes
abbrev pub entry_bytes : ℕ
entry_bytes = 2

-- beginning: the slips handed out, where they stand in memory (a block and an offset) if the lent list stands at `list`, and the refusal in the two
-- lent numbers. So they are that stretch of the lent list itself, and not an equal one elsewhere.
pub record Beginning (s es cs x t : List ℕ) (list : ℕ × ℕ) (found : List ℕ) (place : ℕ × ℕ) (number detail : ℕ) : Type 0 where
  pub found_is : found ≡ found_of s es cs x t
  pub place_is : place ≡ (list.0, found_start s es cs x t * entry_bytes + list.1)
  pub number_is : number ≡ (begin_fault s es cs x t).number
  pub detail_is : detail ≡ (begin_fault s es cs x t).detail

-- beginning_place
abbrev pub place_for : List ℕ → List ℕ → List ℕ → List ℕ → List ℕ → Located
place_for s es cs x t =
    let f = begin_fault s es cs x t in
    let start = found_start s es cs x t in
    record { number = f.number; detail = f.detail; start = start; end = start + length (found_of s es cs x t) }
