-- What the functions that write sheets ask is met for every accepted tray.
--   compose_asks == over the numbers of one side, with any settings
--   refused_asks == over those of a refusal, which are 0
--   find_asks    == over the numbers of the occurrences in a text
use mathlib.Core.Path.{◌≡◌, refl}
use mathlib.Core.List.{List, [], ◌∷◌}
use Prim.Native.Nat.{ℕ, ◌+◌, ◌*◌, ◌^◌, ◌≤◌, ◌<◌}
use native.Mathlib.Omega.{arith}
use lib.ListN.{length, get_or}
use Rattle.words.proofs.Sums.{All, all_at}
use Rattle.words.proofs.Picks.{get_or_in}
use Rattle.words.proofs.Maps.{all_each}
use Rattle.trays.specs.declared.Refusal.{Refusal}
use Rattle.trays.specs.declared.Settings.{Settings}
use Rattle.trays.specs.Limits.{max_text}
use Rattle.trays.specs.Slips.{slips_of}
use Rattle.trays.specs.Faults.{tray_fault}
use Rattle.trays.specs.Sides.{of_side, AcceptedSides}
use Rattle.trays.proofs.Accepted.{accepted_tells, span_rises}
use Rattle.trays.proofs.Spans.{accepted_spanned}
use Rattle.greedy.specs.Composing.{Composing, sided, joins_of, legend_of}
use Rattle.matching.specs.Moves.{moves}
use Rattle.matching.specs.Occurrences.{occurrences}
use Rattle.answers.specs.Composing.{outcome_of, refused_by, join_cells, join_numbers, flat_joins, record_cells, flat_records}
use Rattle.answers.specs.Finding.{flat_found}
use Rattle.answers.proofs.FlatLists.{joins_length, found_length, records_length, records_at}
use Rattle.sheet_rule.specs.Sheets.{sheet_room, max_found, find_room}
use Rattle.sheet_sizes.specs.Fits.{JoinFits, OccurrenceFits}
use Rattle.sheet_lines.specs.Steps.Lines.{SlipsFit, JoinsFit, ComposeAsks, FoundFit, FindAsks}
use Rattle.sheet_sizes.proofs.Fitting.{find_fits}
use Rattle.sheet_sizes.proofs.SideFits.{side_fits}
use Rattle.sheet_sizes.proofs.Flat.{record_real}

-- numbers of a list that holds some for each element
all_get_d : (P : ℕ → Type 0) (xs : List ℕ) → All P xs → (i : ℕ) → i < length xs → P (get_or xs i 0)
all_get_d P xs a i h = all_at P xs (get_or xs i 0) a (get_or_in 0 xs i h)

module _ (g : Settings) (s es cs : List ℕ) (a : AcceptedSides s es cs) where
  abbrev b : ℕ
  b = g.side

  abbrev c : Composing
  c = sided g cs (slips_of s es)

  abbrev M : List ℕ
  M = of_side cs g.side

  -- n records, whose slips are those of the tray
  slips_fit : (ps : List ℕ) (n : ℕ) → record_cells * n ≤ length ps
      → ((i : ℕ) → i < n → (1 ≤ get_or ps (record_cells * i) 0) × (get_or ps (record_cells * i) 0 ≤ length es))
      → ((i : ℕ) → i < n → get_or ps (record_cells * i + 1) 0 < 10 ^ 5) → SlipsFit es ps n
  slips_fit ps n enough real placed = record {
    few = omega (arith, (accepted_tells s es a.tray).few);
    some = λ i h. (real i h).0;
    there = λ i h. (real i h).1;
    rise = λ k p q. omega (arith, span_rises s es a.tray k p q);
    small = λ k p q. omega (arith, (accepted_spanned s es a.tray).fits k q);
    placed = placed;
    records = enough;
  }

  records_fit : SlipsFit es (flat_records c b) (length M)
  records_fit =
      slips_fit (flat_records c b) (length M) (omega (arith, records_length c b))
      (λ i h. rw (records_at c b i 0 (record_cells * i) h (omega arith) (omega arith)) (record_real g s es cs a i h))
      (λ i h.
      let place = records_at c b i 1 (record_cells * i + 1) h (omega arith) refl in
      omega (arith, place, (side_fits g s es cs a).places (get_or M i 0) (get_or_in 0 M i h)))

  joins_fit : JoinsFit (flat_joins (joins_of c)) (length (joins_of c))
  joins_fit =
      let js = joins_of c in
      let n : length (flat_joins js) ≡ join_cells * length js = joins_length js in
      let small : All (λ x. x < 10 ^ 4) (flat_joins js) =
      all_each JoinFits (λ x. x < 10 ^ 4) join_numbers
      (λ j f. (omega (arith, f.0), (omega (arith, f.1), (omega (arith, f.2), tt)))) js (side_fits g s es cs a).joins in
      record { small = λ i h. all_get_d (λ x. x < 10 ^ 4) (flat_joins js) small i (omega arith); numbers = omega arith }

  module _ (room : ℕ) (h : sheet_room ≤ room) where
    pub compose_asks :
        let d = sided g cs (slips_of s es) in ComposeAsks (outcome_of d) es (flat_joins (joins_of d)) (flat_records d g.side) (legend_of d) room
    compose_asks =
        let F = side_fits g s es cs a in
        record {
          header = record {
            slips = omega (arith, F.slips);
            kept = omega (arith, F.kept_slips);
            letters = omega (arith, F.letters);
            saved = omega (arith, F.saved-letters);
            legend = omega (arith, F.legend);
          };
          slips = records_fit;
          joins = joins_fit;
          room-is = omega (arith, F.slips, F.count, F.legend);
        }

    pub refused_asks : (f : Refusal) (js ps : List ℕ) → ComposeAsks (refused_by f) es js ps [] room
    refused_asks f js ps = record {
      header = record { slips = omega arith; kept = omega arith; letters = omega arith; saved = omega arith; legend = omega arith };
      slips = slips_fit ps 0 (omega arith) (λ i l. absurd (omega arith)) (λ i l. absurd (omega arith));
      joins = record { small = λ i l. absurd (omega arith); numbers = omega arith };
      room-is = omega arith;
    }

module _ (s es : List ℕ) (acc : (tray_fault s es).number ≡ 0) where
  abbrev ss : List (List ℕ)
  ss = slips_of s es

  module _ (t : List ℕ) (small : length t ≤ max_text) (few : length (occurrences ss t) ≤ max_found) where
    found_fit : FoundFit (flat_found (occurrences ss t)) (length (occurrences ss t))
    found_fit =
        let fs = occurrences ss t in
        let n : length (flat_found fs) ≡ 2 * length fs = found_length fs in
        let a : All (λ x. x < 10 ^ 4) (flat_found fs) =
        all_each OccurrenceFits (λ x. x < 10 ^ 4) (λ f. f.end ∷ (f.which ∷ [])) (λ f h. (omega (arith, h.0), (omega (arith, h.1), tt))) fs
        (find_fits s es t acc small).found in
        record {
          places = λ i h. all_get_d (λ x. x < 10 ^ 4) (flat_found fs) a (2 * i) (omega arith);
          slips = λ i h. all_get_d (λ x. x < 10 ^ 4) (flat_found fs) a (2 * i + 1) (omega arith);
          numbers = omega arith;
        }

    pub find_asks : (room : ℕ) → find_room ≤ room → FindAsks (length t) (moves ss t) (length (occurrences ss t)) (flat_found (occurrences ss t)) room
    find_asks room h =
        record {
          letters = omega arith;
          moves = omega (arith, (find_fits s es t acc small).moves_few);
          count = omega arith;
          found = found_fit;
          room-is = omega arith;
        }
