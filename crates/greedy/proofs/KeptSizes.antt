-- How many slips of an accepted tray are kept, with how many letters, in how many pieces, and how long the legend is.
--   tray_slips s es  == the slips of a tray, and the kept ones
--   joins_rep       == the chains of its joins, with any settings; joins_fewer == how many joins there are
use mathlib.Core.Path.{◌≡◌, refl, sym, ◌∙◌, ap}
use mathlib.Core.Bool.{Bool, not}
use mathlib.Core.List.{List, [], ◌∷◌}
use Prim.Native.Nat.{ℕ, zero, suc, ◌+◌, ◌-◌, ◌≤◌}
use native.Mathlib.Omega.{arith}
use lib.ListN.{length, take, drop, length-append, take-append-drop}
use Rattle.words.specs.Lists.{those, up_from}
use Rattle.words.proofs.Runs.{length-up_from}
use Rattle.words.proofs.Tests.{by_test}
use Rattle.words.proofs.Members.{In, in_up_from, those-yes, those_no}
use Rattle.words.proofs.Sums.{sum, length_sum}
use Rattle.trays.specs.Limits.{max_slips, max_letters}
use Rattle.trays.specs.declared.Settings.{Settings}
use Rattle.trays.specs.Slips.{slips_from, slips_of, slip, numbers, total}
use Rattle.trays.specs.Aside.{is_aside, kept, counted}
use Rattle.trays.specs.Faults.{tray_fault}
use Rattle.trays.proofs.Kept.{in_kept}
use Rattle.trays.proofs.Accepted.{accepted_tells, slips_count}
use Rattle.greedy.specs.Joins.{plain_for}
use Rattle.greedy.specs.Legends.{pieces_for}
use Rattle.greedy.specs.Orders.{weight}
use Rattle.greedy.specs.Composing.{whole, joins_of, legend_of}
use Rattle.greedy.proofs.GreedyLegends.{numbers_rise, numbers_positive}
use Rattle.greedy.proofs.Chains.{Chain, Rep, chains_fewer}
use Rattle.greedy.proofs.Bound.{kept_rep}
use Rattle.greedy.proofs.Letters.{pieces-numbers, saving_of}

-- the letters of all slips are at most the tray's letters
total_next : (x : List ℕ) (ss : List (List ℕ)) (m n : ℕ) → total (x ∷ ss) (up_from (suc (suc m)) n) ≡ total ss (up_from (suc m) n)
total_next x ss m zero = refl
total_next x ss m (suc n) = ap (λ (k : ℕ). length (slip ss (suc m)) + k) (total_next x ss (suc m) n)

total-numbers : (ss : List (List ℕ)) → total ss (numbers ss) ≡ sum length ss
total-numbers [] = refl
total-numbers (x ∷ ss) = ap (λ (k : ℕ). length x + k) (total_next x ss 0 (length ss) ∙ total-numbers ss)

slips_most : (here : ℕ) (s es : List ℕ) → sum length (slips_from here s es) ≤ length s
slips_most here s [] = omega arith
slips_most here s (e ∷ es) =
    omega (arith, slips_most e (drop (e - here) s) es, length-append (take (e - here) s) (drop (e - here) s), ap length (take-append-drop (e - here) s))

total-those : (ss : List (List ℕ)) (t : ℕ → Bool) (M : List ℕ) → total ss (those t M) ≤ total ss M
total-those ss t [] = omega arith
total-those ss t (i ∷ M) =
    by_test (t i)
    (λ e. rw (those-yes t i M e) (omega (arith, total-those ss t M)))
    (λ e. rw (those_no t i M e) (omega (arith, total-those ss t M)))

length-those : (t : ℕ → Bool) (M : List ℕ) → length (those t M) ≤ length M
length-those t [] = omega arith
length-those t (i ∷ M) =
    by_test (t i)
    (λ e. rw (those-yes t i M e) (omega (arith, length-those t M)))
    (λ e. rw (those_no t i M e) (omega (arith, length-those t M)))

-- the slips of a tray, and the kept ones: opened at the head of a section
pub record TraySlips : Type 0 where
  pub ss : List (List ℕ)
  pub K : List ℕ

abbrev pub tray_slips : List ℕ → List ℕ → TraySlips
tray_slips s es = let ss = slips_of s es in record { ss = ss; K = kept ss (numbers ss) }

module _ (s es : List ℕ) (acc : (tray_fault s es).number ≡ 0) where
  open tray_slips s es use {ss, K}

  pub kept_real : (i : ℕ) → In i K → (1 ≤ i) × (i ≤ length es)
  kept_real i h =
      let r = in_up_from 1 (length ss) (in_kept ss (numbers ss) h).0 in
      (r.0, omega (arith, r.1, slips_count s es))

  pub kept_few : length K ≤ max_slips
  kept_few = omega (
    arith,
    length-those (λ i. not (is_aside ss (numbers ss) i)) (numbers ss),
    length-up_from 1 (length ss),
    slips_count s es,
    (accepted_tells s es acc).few,
  )

  pub kept_small : total ss K ≤ max_letters
  kept_small = omega (
    arith,
    total-those ss (λ i. not (is_aside ss (numbers ss) i)) (numbers ss),
    total-numbers ss,
    slips_most 0 s es,
    (accepted_tells s es acc).small,
  )

  module _ (g : Settings) where
    abbrev counts : List ℕ → Bool
    counts = counted g.least

    pub joins_rep : (Ds : List Chain) × Rep (weight counts ss) K (plain_for counts ss K) Ds
    joins_rep = kept_rep ss (numbers ss) (numbers_rise ss) (numbers_positive ss) counts

    -- the joins make chains of the kept slips, and a chain has one join less than slips
    pub joins_fewer : length (joins_of (whole g ss)) ≤ max_slips - 1
    joins_fewer =
        let (Cs, R) = joins_rep in
        omega (arith, R.count, fewer Cs (max_slips - 1) (omega (arith, chains_fewer Cs, R.all (λ i. 1), length_sum K, kept_few)))
      where
        fewer : (Cs : List Chain) (n : ℕ) → length Cs + sum (λ C. length C.rest) Cs ≤ suc n → sum (λ C. length C.rest) Cs ≤ n
        fewer [] n h = omega arith
        fewer (C ∷ Cs) n h = omega arith

    pub pieces_count : length (pieces_for counts ss (numbers ss)) ≡ length K
    pieces_count = sym (length_sum (pieces_for counts ss (numbers ss))) ∙ pieces-numbers joins_rep.1 (λ i. 1) ∙ length_sum K

    pub legend_small : length (legend_of (whole g ss)) ≤ max_letters
    legend_small = omega (arith, kept_small, saving_of counts ss joins_rep.1)
