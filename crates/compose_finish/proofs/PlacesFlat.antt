-- The places, slip by slip, are those of the rules.
--   places_all == so for the pieces of a tray's own joins
use mathlib.Core.Path.{◌≡◌, sym, ◌∙◌, ap}
use mathlib.Core.Bool.{true, false, not}
use mathlib.Core.List.{List, [], ◌∷◌}
use Prim.Native.Nat.{ℕ, suc, ◌+◌, ◌*◌, ◌/◌, ◌%◌, ◌≤◌, ◌<◌}
use native.Mathlib.Omega.{arith}
use lib.ListN.{length, get_or, take, replicate, length-replicate, get_or-replicate}
use lib.Seq.{ext_get_or, get_or-take, length-take-le}
use Rattle.words.proofs.Tests.{by_test}
use Rattle.trays.specs.declared.Settings.{Settings}
use Rattle.trays.specs.Slips.{slips_of, slip, numbers}
use Rattle.trays.specs.Aside.{is_aside, counted}
use Rattle.trays.specs.Faults.{tray_fault}
use Rattle.trays.proofs.Accepted.{accepted_tells, slips_count}
use Rattle.greedy.specs.Legends.{Piece, pieces_for, place_in, lowest, tried, place_for}
use Rattle.greedy.specs.Composing.{whole, legend_of}
use Rattle.legend_places.specs.Places.{placed_by, aside_by}
use Rattle.legend_places.proofs.PlacesAre.{is_laid, LaidOnce, number_of, placed_here, placed_other, aside_at_lem, placed_length, aside_length}
use Rattle.layout.specs.Layout.{all_places}
use Rattle.answers.specs.Composing.{place_cells, place_numbers, flat_places}
use Rattle.answers.proofs.FlatLists.{places_length, places_at}
use Rattle.compose_finish.proofs.PiecesFit.{pieces_once, pieces_which}

module _ (g : Settings) (ss : List (List ℕ)) (xs : List ℕ) (room : place_cells * length ss ≤ length xs)
    (blank : (k : ℕ) → k < length ss → get_or xs (place_cells * k + 1) 0 ≡ 0) where
  abbrev ps : List Piece
  ps = pieces_for (counted g.least) ss (numbers ss)

  abbrev after : List ℕ
  after = aside_by ss (legend_of (whole g ss)) (placed_by ss xs 1 ps) (length ss)

  aside_numbers_lem : (i : ℕ) → is_aside ss (numbers ss) i ≡ true →
      let x = slip ss i in lowest 1 x (legend_of (whole g ss)) ∷ (0 ∷ (tried x (legend_of (whole g ss)) ∷ [])) ≡ place_numbers (whole g ss) i
  aside_numbers_lem i t = rw (t, place_for)

  kept-numbers : (i : ℕ) → is_aside ss (numbers ss) i ≡ false → place_in ss i 1 ps ∷ (1 ∷ (0 ∷ [])) ≡ place_numbers (whole g ss) i
  kept-numbers i t = rw (t, place_for)

  module _ (once : LaidOnce ps) (which : (k : ℕ) → k < length ss → is_laid (suc k) ps ≡ not (is_aside ss (numbers ss) (suc k)))
      (longer : length (placed_by ss xs 1 ps) ≡ length xs) where
    -- number j of slip k + 1
    cell-is : (k j : ℕ) → k < length ss → j < place_cells → number_of after k j ≡ get_or (place_numbers (whole g ss) (suc k)) j 0
    cell-is k j h l =
        let old = placed_by ss xs 1 ps in
        let a = aside_at_lem ss (legend_of (whole g ss)) old (length ss) k j h l (omega arith) in
        by_test (is_aside ss (numbers ss) (suc k))
        (λ t.
        let o : is_laid (suc k) ps ≡ false = which k h ∙ rw t in
        let z : number_of old k 1 ≡ 0 = placed_other ss ps xs 1 k 1 once o (omega arith) ∙ blank k h in
        a ∙ rw z (ap (λ (ns : List ℕ). get_or ns j 0) (aside_numbers_lem (suc k) t)))
        (λ t.
        let o : is_laid (suc k) ps ≡ true = which k h ∙ rw t in
        let one : number_of old k 1 ≡ 1 = placed_here ss ps xs 1 k 1 once o (omega arith) (omega arith) in
        a ∙ rw one (placed_here ss ps xs 1 k j once o l (omega arith) ∙ ap (λ (ns : List ℕ). get_or ns j 0) (kept-numbers (suc k) t)))

    places_flat : place_cells * length ss ≤ length after → take (place_cells * length ss) after ≡ flat_places (whole g ss)
    places_flat l =
        let size : length (take (place_cells * length ss) after) ≡ place_cells * length ss = length-take-le (place_cells * length ss) after l in
        ext_get_or 0 (take (place_cells * length ss) after) (flat_places (whole g ss)) (size ∙ sym (places_length (whole g ss)))
        (λ i h.
        let k = i / place_cells in
        let j = i % place_cells in
        let e : i ≡ place_cells * k + j = omega arith in
        let few : k < length ss = omega arith in
        get_or-take (place_cells * length ss) after i 0 (omega arith)
        ∙ ap (λ (n : ℕ). get_or after n 0) e ∙ cell-is k j few (omega arith) ∙ sym (places_at (whole g ss) k j i few (omega arith) e))

-- so for the pieces of an accepted tray's own joins, from cells of 0
pub places_all : (g : Settings) (s es : List ℕ) → (tray_fault s es).number ≡ 0 →
    let ss = slips_of s es in
    take (place_cells * length ss)
    (aside_by ss (legend_of (whole g ss)) (placed_by ss (replicate all_places 0) 1 (pieces_for (counted g.least) ss (numbers ss))) (length ss))
    ≡ flat_places (whole g ss)
places_all g s es acc =
    let ss = slips_of s es in
    let zeros = replicate {A = ℕ} all_places 0 in
    let few : place_cells * length ss ≤ all_places = omega (arith, (accepted_tells s es acc).few, slips_count s es) in
    let size : length zeros ≡ all_places = length-replicate {A = ℕ} all_places 0 in
    let laid = placed_by ss zeros 1 (pieces_for (counted g.least) ss (numbers ss)) in
    let placed = placed_length ss (pieces_for (counted g.least) ss (numbers ss)) zeros 1 in
    places_flat g ss zeros (omega (arith, few, size)) (λ i h. get_or-replicate all_places (place_cells * i + 1) 0 0 (omega (arith, few)))
    (pieces_once g s es acc) (pieces_which g s es acc) placed (omega (arith, few, size, placed, aside_length ss (legend_of (whole g ss)) laid (length ss)))
