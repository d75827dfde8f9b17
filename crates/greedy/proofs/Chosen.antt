-- The slips numbered in M, as a tray of their own: it has the same legend.
--   Real n M       == M ascends, and its members are numbers from 1 to n
--   numbers_real   == so do the numbers of all slips
--   nth M n i      == the number at place i of M, from 1; past the end of M it rises on, above n
--   nth_renumbers  == it renumbers the slips of the tray of their own (Relabel)
--   nth-numbers    == and takes their numbers to M
--   letters-only   == the letters of the slips chosen, counted
--   only_all       == all slips chosen are the tray
--   only_few, only-letters == the slips chosen are no more than all, and have no more letters
--   good_only      == slips chosen from an accepted tray are good; only-accepted == as a tray of their own they are accepted
--   legend_only    == the legend for M is that of the tray of their own
--   legend_spare   == the legend is the same if spare slips are left out
-- The legend goes by the slips kept alone, and a renumbering that rises changes nothing of it.
use mathlib.Core.Path.{◌≡◌, refl, sym, ap, ◌∙◌}
use mathlib.Core.Bool.{Bool}
use mathlib.Core.List.Memᴰ
use mathlib.Core.List.{List, [], ◌∷◌, map}
use Prim.Native.Nat.{ℕ, zero, suc, ◌+◌, ◌≤◌, ◌<◌}
use native.Mathlib.Numerals.{one-add}
use native.Mathlib.Decide.{dec_lt}
use native.Mathlib.Omega.{arith}
use lib.ListN.{length, get_or, length-append, length-map, get_or-map, get_or-eq_default}
use Rattle.words.proofs.Members.{In, Asc, by_in, in_up_from, asc_up_from}
use Rattle.words.proofs.Picks.{get_d_default, get_or_in, asc_get_or}
use Rattle.words.proofs.Runs.{length-up_from, map_places, sum_run}
use Rattle.words.proofs.Sums.{All, sum, length_sum, all_in, all_at}
use Rattle.trays.specs.Slips.{slips_of, slip, numbers, only, total}
use Rattle.trays.specs.Faults.{tray_fault}
use Rattle.trays.specs.Written.{letters_of, ends_of}
use Rattle.trays.proofs.Accepted.{accepted_tells, slips_count}
use Rattle.trays.proofs.LeftOut.{Spare, kept_spare}
use Rattle.trays.proofs.WrittenTrays.{Good, slips_good, written_slips, written-accepted}
use Rattle.greedy.specs.Joins.{plain_for}
use Rattle.greedy.specs.Legends.{pieces, spelled, legend_for}
use Rattle.greedy.proofs.Letters.{total_sum}
use Rattle.greedy.proofs.Relabel.{Renumbers, legend_relabel}

pub record Real (n : ℕ) (M : List ℕ) : Type 0 where
  pub rise : Asc ◌<◌ M
  pub real : (i : ℕ) → In i M → (1 ≤ i) × (i ≤ n)

pub numbers_real : (ss : List (List ℕ)) → Real (length ss) (numbers ss)
numbers_real ss = record { rise = asc_up_from 1 (length ss); real = λ i m. omega (arith, in_up_from 1 (length ss) m) }

abbrev pub nth : List ℕ → ℕ → ℕ → ℕ
nth M n i = get_or (0 ∷ M) i (i + n)

module _ {n : ℕ} {M : List ℕ} (R : Real n M) where
  nth-most : (i : ℕ) → nth M n i ≤ i + n
  nth-most i =
      elim (dec_lt i (suc (length M))) [
        | yes h ↦ by_in (get_or_in (i + n) (0 ∷ M) i h) (λ e. omega arith) (λ m. omega (arith, R.real _ m))
        | no h ↦ omega (arith, get_or-eq_default (0 ∷ M) (i + n) {n = i} (omega arith))
      ]

  -- 0 and M ascend together; past the end a number is its place and n, and none before it is more than that
  nth_rises : (i k : ℕ) → i < k → nth M n i < nth M n k
  nth_rises i k h =
      elim (dec_lt k (suc (length M))) [
        | yes l ↦
            rw (get_d_default (0 ∷ M) i (i + n) 0 (omega arith), get_d_default (0 ∷ M) k (k + n) 0 l)
            (asc_get_or 0 ◌<◌ (0 ∷ M) i k ((λ j m. omega (arith, R.real j m)), R.rise) h l)
        | no l ↦ omega (arith, nth-most i, get_or-eq_default (0 ∷ M) (k + n) {n = k} (omega arith))
      ]

  module _ (ss : List (List ℕ)) where
    nth-letters : (i : ℕ) → In i (numbers (only ss M)) → slip ss (nth M n i) ≡ slip (only ss M) i
    nth-letters zero m = refl
    nth-letters (suc i) m =
        rw (get_d_default M i (suc i + n) 0 (omega (arith, in_up_from 1 (length (only ss M)) m, length-map M (slip ss)))) (sym (get_or-map (slip ss) M i 0))

    pub nth_renumbers : Renumbers (nth M n) (only ss M) ss (numbers (only ss M))
    nth_renumbers = record { none = refl; order = nth_rises; letters = nth-letters }

    pub nth-numbers : map (nth M n) (numbers (only ss M)) ≡ M
    nth-numbers = rw length-map (map_places 0 (nth M n) 1 M (λ i h. rw one-add (get_d_default M i (suc i + n) 0 h)))

pub letters-only : (ss : List (List ℕ)) (M : List ℕ) → length (letters_of (only ss M)) ≡ total ss M
letters-only ss [] = refl
letters-only ss (i ∷ M) = rw (length-append, letters-only ss M)

pub only_all : (ss : List (List ℕ)) → only ss (numbers ss) ≡ ss
only_all ss = map_places [] (slip ss) 1 ss (λ i h. rw one-add)

module _ (ss : List (List ℕ)) {M : List ℕ} (R : Real (length ss) M) where
  sum_chosen : (f : ℕ → ℕ) → sum f M ≤ sum f (numbers ss)
  sum_chosen f = sum_run f 1 (length ss) M R.rise (λ i m. omega (arith, R.real i m))

  pub only_few : length (only ss M) ≤ length ss
  only_few = omega (arith, sum_chosen (λ i. 1), length_sum M, length_sum (numbers ss), length-up_from 1 (length ss), length-map M (slip ss))

  pub only-letters : length (letters_of (only ss M)) ≤ length (letters_of ss)
  only-letters =
      let all = letters-only ss (numbers ss) in
      omega (
        arith,
        sum_chosen (λ i. length (slip ss i)),
        letters-only ss M,
        rw only_all at all,
        total_sum ss M,
        total_sum ss (numbers ss),
      )

-- what holds of all slips holds of those chosen
all_only : (P : List ℕ → Type 0) (ss : List (List ℕ)) {M : List ℕ} → All P ss → Real (length ss) M → All P (only ss M)
all_only P ss {M} p R = all_in P (only ss M) (λ x m. let (i, j, e) = Memᴰ.of_map (slip ss) M m in rw (← e) (at i (R.real i j)))
  where
    at : (i : ℕ) → (1 ≤ i) × (i ≤ length ss) → P (slip ss i)
    at zero h = absurd (omega arith)
    at (suc i) h = all_at P ss (slip ss (suc i)) p (get_or_in [] ss i (omega arith))

module _ (s es M : List ℕ) (acc : (tray_fault s es).number ≡ 0) (R : Real (length (slips_of s es)) M) where
  pub good_only : All Good (only (slips_of s es) M)
  good_only = all_only Good (slips_of s es) (slips_good s es acc) R

  pub only-accepted : (tray_fault (letters_of (only (slips_of s es) M)) (ends_of (only (slips_of s es) M))).number ≡ 0
  only-accepted =
      let a = accepted_tells s es acc in
      written-accepted (only (slips_of s es) M) good_only
      (omega (arith, only_few (slips_of s es) R, slips_count s es, a.few))
      (omega (arith, only-letters (slips_of s es) R, ap length (written_slips s es acc).0, a.small))

pub legend_only :
    {n : ℕ} (counts : List ℕ → Bool) (ss : List (List ℕ)) (M : List ℕ) → Real n M
    → legend_for counts ss M ≡ legend_for counts (only ss M) (numbers (only ss M))
legend_only counts ss M R = ap (legend_for counts ss) (sym (nth-numbers R ss)) ∙ legend_relabel (nth_renumbers R ss) counts

pub legend_spare :
    (counts : List ℕ → Bool) (ss : List (List ℕ)) {M N : List ℕ} → Spare ss M N → Asc ◌<◌ M → Asc ◌<◌ N
    → legend_for counts ss M ≡ legend_for counts ss N
legend_spare counts ss C p q = ap (λ K. spelled ss (pieces (plain_for counts ss K) K)) (kept_spare ss C p q)
