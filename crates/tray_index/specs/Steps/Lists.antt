-- A list handed in as the index of a tray with letters s and ends es.
--   AtEntry s es x i  == the tray is accepted, place i is within the list, and the entry before it, if any, is the number of a slip
--   OwnIndex s es x   == the tray is accepted, and the list is its index
--   span_for ss t      == where the slips that start with t start and end in the index
use Rattle.std.specs.Prelude.{◌≡◌, List, ℕ, ◌+◌, ◌≤◌, ◌<◌, length}
use Rattle.words.specs.Lists.{entry}
use Rattle.trays.specs.declared.Span.{Span}
use Rattle.trays.specs.Slips.{slips_of}
use Rattle.trays.specs.Faults.{tray_fault}
use Rattle.index_rule.specs.Index.{index_of, stretch_for, start_at}

pub record AtEntry (s es x : List ℕ) (i : ℕ) : Type 0 where
  pub tray : (tray_fault s es).number ≡ 0
  pub inside : i < length x
  pub before : (i ≡ 0 → ⊥) → (1 ≤ entry x i) × (entry x i ≤ length es)

pub record OwnIndex (s es x : List ℕ) : Type 0 where
  pub tray : (tray_fault s es).number ≡ 0
  pub own : x ≡ index_of (slips_of s es)

abbrev pub span_for : List (List ℕ) → List ℕ → Span
span_for ss t = record { start = start_at ss t; end = start_at ss t + length (stretch_for ss t) }
