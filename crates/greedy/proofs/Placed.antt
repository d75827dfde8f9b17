-- Every slip stands in the legend, and its place is within it.
--   aside_held    == a slip stands in a kept slip
--   legend_every  == the legend holds every slip
--   place-fits    == at its place the whole slip is within the legend, and so at every place before it
--   place-most    == a place is at most the legend's length
--   all_tried     == so the trial of places reaches none at which a slip would not fit, and its count fits 16 bits
-- A slip set aside stands in a longer one, or equals a lower one; going on from there the slips grow longer or their numbers fall, so a
-- kept slip is reached. The legend holds the kept slips, and what stands in a text fits at its lowest place.
use mathlib.Core.Path.{◌≡◌, ap, subst}
use mathlib.Core.Bool.{Bool, true}
use mathlib.Core.Logic.{inl, inr}
use mathlib.Core.List.{List, [], ◌∷◌}
use Prim.Native.Nat.{ℕ, zero, suc, ◌+◌, ◌-◌, ◌*◌, ◌≤◌, ◌<◌}
use native.Mathlib.Omega.{arith}
use lib.ListN.{length, drop, length-drop}
use Rattle.words.specs.Words.{begins, stands_in}
use Rattle.words.proofs.Tests.{by_test, tell}
use Rattle.words.proofs.Members.{In, any_in, in_up_from, up_from_in}
use Rattle.words.proofs.Sums.{in_held}
use Rattle.words.proofs.Strings.{begins-refl, begins-length, begins_stands, stands_drop, stands_trans}
use Rattle.trays.specs.Limits.{max_slips, max_slip, max_letters}
use Rattle.trays.specs.declared.Settings.{Settings}
use Rattle.trays.specs.Slips.{slip, numbers}
use Rattle.trays.specs.Aside.{aside_for, is_aside, counted}
use Rattle.trays.specs.Faults.{tray_fault}
use Rattle.trays.proofs.Accepted.{accepted_tells, slips_count}
use Rattle.trays.proofs.Kept.{aside_cases, kept_in_lem}
use Rattle.trays.proofs.Spans.{accepted_spanned}
use Rattle.greedy.specs.Legends.{pieces_for, lowest, place_in, place_for}
use Rattle.greedy.specs.Composing.{whole, legend_of, place_of, compared_of}
use Rattle.greedy.specs.Claims.{AllTried}
use Rattle.greedy.proofs.Letters.{laid_at}
use Rattle.greedy.proofs.KeptSizes.{tray_slips, joins_rep, legend_small}
use Rattle.greedy.proofs.Tried.{tried-most}

lowest-fits : (p : ℕ) (x t : List ℕ) → stands_in x t ≡ true → lowest p x t + length x ≤ p + length t
lowest-fits p x [] h = omega (arith, begins-length x [] h)
lowest-fits p x (y ∷ ys) h =
    by_test (begins x (y ∷ ys))
    (λ e. rw (e, lowest) (omega (arith, begins-length x (y ∷ ys) e)))
    (λ e. rw (e, lowest) (omega (arith, lowest-fits (suc p) x ys (rw e at h))))

module _ (s es : List ℕ) (acc : (tray_fault s es).number ≡ 0) where
  open tray_slips s es use {ss, K}

  -- it falls from a slip to one that sets it aside
  abbrev left : ℕ → ℕ
  left i = (max_slip - length (slip ss i)) * suc max_slips + i

  pub record Sooner (i k : ℕ) : Type 0 where
    pub real : (1 ≤ k) × (k ≤ length es)
    pub holds : stands_in (slip ss i) (slip ss k) ≡ true
    pub falls : left k < left i

  aside_next : (i : ℕ) → is_aside ss (numbers ss) i ≡ true → (k : ℕ) × Sooner i k
  aside_next i e =
      let (k, m, a) = any_in (aside_for ss i) (numbers ss) e in
      let x = slip ss i in
      let y = slip ss k in
      let r : (1 ≤ k) × (k ≤ length es) = ((in_up_from 1 (length ss) m).0, omega (arith, (in_up_from 1 (length ss) m).1, slips_count s es)) in
      let few : k ≤ max_slips = omega (arith, r.1, (accepted_tells s es acc).few) in (
        k,
        elim (aside_cases ss i k a) [
          | inl (l, h) ↦ record { real = r; holds = h; falls = omega (arith, (accepted_spanned s es acc).short k r.0 r.1) }
          | inr (l, q) ↦ record {
            real = r;
            holds = begins_stands x y (subst (λ z. begins x z ≡ true) q (begins-refl x));
            falls = omega (arith, ap length q);
          }
        ],
      )

  aside_held : (f i : ℕ) → 1 ≤ i → i ≤ length es → left i ≤ f → (k : ℕ) × In k K × (stands_in (slip ss i) (slip ss k) ≡ true)
  aside_held zero i p l h = absurd (omega arith)
  aside_held (suc f) i p l h =
      elim (tell (is_aside ss (numbers ss) i)) [
        | inr e ↦ (
          i,
          kept_in_lem ss (numbers ss) (up_from_in 1 (length ss) i p (omega (arith, slips_count s es))) e,
          begins_stands (slip ss i) (slip ss i) (begins-refl (slip ss i)),
        )
        | inl e ↦
            let (k, n) = aside_next i e in
            let (g, m, t) = aside_held f k n.real.0 n.real.1 (omega (arith, n.falls)) in
            (g, m, stands_trans (slip ss i) (slip ss k) (slip ss g) n.holds t)
      ]

  module _ (g : Settings) where
    abbrev counts : List ℕ → Bool
    counts = counted g.least

    laid : (i : ℕ) → In i K →
        (1 ≤ place_in ss i 1 (pieces_for counts ss (numbers ss))) ×
        (begins (slip ss i) (drop (place_in ss i 1 (pieces_for counts ss (numbers ss)) - 1) (legend_of (whole g ss))) ≡ true)
    laid i m = laid_at counts ss (joins_rep s es acc g).1 i (in_held i K m)

    pub legend_every : (i : ℕ) → 1 ≤ i → i ≤ length es → stands_in (slip ss i) (legend_of (whole g ss)) ≡ true
    legend_every i p l =
        let (k, m, t) = aside_held (left i) i p l (omega arith) in
        stands_trans (slip ss i) (slip ss k) (legend_of (whole g ss)) t
        (stands_drop (place_in ss k 1 (pieces_for counts ss (numbers ss)) - 1) (slip ss k) (legend_of (whole g ss)) (laid k m).1)

    pub place-fits : (i : ℕ) → 1 ≤ i → i ≤ length es → place_of (whole g ss) i + length (slip ss i) ≤ suc (length (legend_of (whole g ss)))
    place-fits i p l =
        by_test (is_aside ss (numbers ss) i)
        (λ e. rw (e, place_for) (omega (arith, lowest-fits 1 (slip ss i) (legend_of (whole g ss)) (legend_every i p l))))
        (λ e.
        let r = laid i (kept_in_lem ss (numbers ss) (up_from_in 1 (length ss) i p (omega (arith, slips_count s es))) e) in
        let k = place_in ss i 1 (pieces_for counts ss (numbers ss)) - 1 in
        rw (e, place_for)
        (omega (
          arith,
          r.0,
          (accepted_spanned s es acc).some i p l,
          begins-length (slip ss i) (drop k (legend_of (whole g ss))) r.1,
          length-drop k (legend_of (whole g ss)),
        )))

    pub place-most : (i : ℕ) → 1 ≤ i → i ≤ length es → place_of (whole g ss) i ≤ length (legend_of (whole g ss))
    place-most i p l = omega (arith, place-fits i p l, (accepted_spanned s es acc).some i p l)

    compared-most : (i : ℕ) → 1 ≤ i → i ≤ length es → compared_of (whole g ss) i ≤ max_slip * max_letters
    compared-most i p l =
        by_test (is_aside ss (numbers ss) i)
        (λ e.
        rw e
        (omega (arith, tried-most max_slip (slip ss i) (legend_of (whole g ss)) ((accepted_spanned s es acc).short i p l), legend_small s es acc g)))
        (λ e. rw e (omega arith))

pub all_tried : AllTried
all_tried g s es acc i p l = record { fits = omega (arith, place-fits s es acc g i p l); small = omega (arith, compared-most s es acc g i p l) }
