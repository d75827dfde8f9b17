-- The pieces of a tray's own joins: they name each kept slip once, fit the tray and the legend, and can be placed.
--   K, js, ps  == the kept slips of the tray, its joins and its pieces
use mathlib.Core.Path.{◌≡◌, refl, ◌∙◌}
use mathlib.Core.Bool.{Bool, true, false, not}
use mathlib.Core.List.{List, [], ◌∷◌}
use Prim.Native.Nat.{ℕ, zero, suc, ◌+◌, ◌-◌, ◌≤◌, ◌<◌}
use borrow.Author.Tests.{eqb-true, eq-eqb}
use native.Mathlib.Omega.{arith}
use lib.Dec.{eqb}
use lib.ListN.{length, length-append, length-drop}
use Rattle.words.proofs.Tests.{by_test, not_both}
use Rattle.words.proofs.Members.{In, up_from_in}
use Rattle.words.proofs.Sums.{sum, All, is, held, in_held, held_in, asc_once}
use Rattle.trays.specs.declared.Settings.{Settings}
use Rattle.trays.specs.Slips.{slips_of, slip, numbers}
use Rattle.trays.specs.Aside.{is_aside, counted}
use Rattle.trays.specs.Faults.{tray_fault}
use Rattle.trays.proofs.Kept.{kept_asc, in_kept, kept_in_lem}
use Rattle.greedy.specs.Legends.{Piece, added, spelled, pieces_for}
use Rattle.greedy.proofs.GreedyLegends.{numbers_rise}
use Rattle.greedy.proofs.KeptSizes.{tray_slips, joins_rep, kept_real, legend_small}
use Rattle.greedy.proofs.Letters.{Order, over-most, legend_order, pieces-numbers}
use Rattle.legend_lay.specs.Laying.{PieceFits}
use Rattle.legend_lay.proofs.OrderFits.{order_fits}
use Rattle.legend_places.specs.Places.{Placeable}
use Rattle.legend_places.proofs.PlacesAre.{is_laid, LaidOnce}

-- how often slip i is among pieces
abbrev times : ℕ → List Piece → ℕ
times i ps = sum (λ p. is i p.number) ps

is_same : (i k : ℕ) → i ≡ k → is i k ≡ 1
is_same i k e = rw (eq-eqb i k e)

is_other : (i k : ℕ) → eqb i k ≡ false → is i k ≡ 0
is_other i k e = rw e

laid_times : (i : ℕ) (ps : List Piece) → 1 ≤ times i ps → is_laid i ps ≡ true
laid_times i [] h = absurd (omega arith)
laid_times i (p ∷ ps) h =
    by_test (eqb i p.number) (λ t. rw t) (λ t. rw t (laid_times i ps (omega (arith, is_other i p.number t))))

times_none : (i : ℕ) (ps : List Piece) → times i ps ≡ 0 → is_laid i ps ≡ false
times_none i [] h = refl
times_none i (p ∷ ps) h =
    by_test (eqb i p.number)
    (λ t. absurd (omega (arith, is_same i p.number (eqb-true i p.number t))))
    (λ t. rw t (times_none i ps (omega arith)))

-- each named at most once
once_times : (ps : List Piece) → ((i : ℕ) → times i ps ≤ 1) → All (λ p. 1 ≤ p.number) ps → LaidOnce ps
once_times [] h a = tt
once_times (p ∷ ps) h a = (
  a.0,
  times_none p.number ps (omega (arith, h p.number, is_same p.number p.number refl)),
  once_times ps (λ i. omega (arith, h i)) a.1,
)

all_times : (P : ℕ → Type 0) (ps : List Piece) → ((i : ℕ) → 1 ≤ times i ps → P i) → All (λ p. P p.number) ps
all_times P [] h = tt
all_times P (p ∷ ps) h =
    (h p.number (omega (arith, is_same p.number p.number refl)), all_times P ps (λ i l. h i (omega arith)))

-- an order of slips of the tray, behind so many letters, can be placed
order_places : (s es : List ℕ) (ps : List Piece) (x : List ℕ) (here : ℕ) → length x < here → here + length (spelled (slips_of s es) ps) < 65536 →
    Order (slips_of s es) x ps → All (λ p. (1 ≤ p.number) × (p.number ≤ length es)) ps → Placeable s es here ps
order_places s es [] x here h b o a = omega arith
order_places s es (p ∷ ps) x here h b o a =
    let ss = slips_of s es in
    let y = slip ss p.number in
    let v : List ℕ × (length o.0.0 + p.overlap ≡ length x) = (o.0.0, o.0.2) in
    let m : p.overlap ≤ length y = over-most x p.overlap y o.0 in
    let d : length (added ss p) ≡ length y - p.overlap = length-drop p.overlap y in
    let e : length (spelled ss (p ∷ ps)) ≡ length (added ss p) + length (spelled ss ps) = length-append (added ss p) (spelled ss ps) in (
      a.0.0,
      a.0.1,
      omega (arith, v.1),
      m,
      omega arith,
      order_places s es ps y (here + length (added ss p)) (omega (arith, v.1)) (omega arith) o.1 a.1,
    )

module _ (g : Settings) (s es : List ℕ) (acc : (tray_fault s es).number ≡ 0) where
  open tray_slips s es use {ss, K}

  abbrev counts : List ℕ → Bool
  counts = counted g.least

  abbrev ps : List Piece
  ps = pieces_for counts ss (numbers ss)

  times_held : (i : ℕ) → times i ps ≡ held i K
  times_held i = pieces-numbers (joins_rep s es acc g).1 (is i)

  real : (i : ℕ) → 1 ≤ times i ps → (1 ≤ i) × (i ≤ length es)
  real i h = kept_real s es acc i (held_in i K (omega (arith, times_held i)))

  pub pieces_once : LaidOnce ps
  pieces_once =
      once_times ps (λ i. omega (arith, times_held i, asc_once K (kept_asc ss (numbers ss) (numbers_rise ss)) i))
      (all_times (λ i. 1 ≤ i) ps (λ i h. (real i h).0))

  pub pieces_which : (k : ℕ) → k < length ss → is_laid (suc k) ps ≡ not (is_aside ss (numbers ss) (suc k))
  pieces_which k h =
      by_test (is_aside ss (numbers ss) (suc k))
      (λ t. rw t (times_none (suc k) ps (times_held (suc k) ∙ none t)))
      (λ t.
      let m : In (suc k) K = kept_in_lem ss (numbers ss) (up_from_in 1 (length ss) (suc k) (omega arith) (omega arith)) t in
      rw t (laid_times (suc k) ps (omega (arith, times_held (suc k), in_held (suc k) K m))))
    where
      none : is_aside ss (numbers ss) (suc k) ≡ true → held (suc k) K ≡ 0
      none t = go (held (suc k) K) refl
        where
          go : (n : ℕ) → held (suc k) K ≡ n → held (suc k) K ≡ 0
          go zero e = e
          go (suc n) e = absurd (not_both (is_aside ss (numbers ss) (suc k)) t (in_kept ss (numbers ss) (held_in (suc k) K (omega arith))).1)

  in_tray : All (λ p. (1 ≤ p.number) × (p.number ≤ length es)) ps
  in_tray = all_times (λ i. (1 ≤ i) × (i ≤ length es)) ps real

  pub pieces_fit : All (PieceFits s es) ps
  pieces_fit = order_fits s es ps [] (legend_order counts ss (joins_rep s es acc g).1) in_tray

  pub pieces_places : Placeable s es 1 ps
  pieces_places = order_places s es ps [] 1 (omega arith) (omega (arith, legend_small s es acc g)) (legend_order counts ss (joins_rep s es acc g).1) in_tray
