-- Slips left out of the members of a tray, of which the same are kept.
--   StandsFor ss N i k  == slip k sets slip i aside, and sets aside all those of N that slip i does
--   Spare ss M N        == M is N without slips for which others of M stand
--   stands_equal        == a lower equal slip stands for a slip
--   stands_within       == for a slip above which N has none, a lower slip in which it stands
--   kept_spare          == so of M and of N the same slips are kept
-- A spare slip is set aside, and what it sets aside something of M sets aside as well.
use mathlib.Core.Path.{◌≡◌, sym, ◌∙◌, ap}
use mathlib.Core.Bool.{true}
use mathlib.Core.Logic.{◌⊎◌, inl, inr}
use mathlib.Core.List.{List}
use Prim.Native.Nat.{ℕ, ◌≤◌, ◌<◌}
use native.Mathlib.Decide.{dec_lt}
use native.Mathlib.Omega.{arith}
use lib.ListN.{length}
use Rattle.words.specs.Words.{stands_in}
use Rattle.words.proofs.Tests.{not_both, same_test}
use Rattle.words.proofs.Members.{In, Asc, in_any, any_in, asc_one}
use Rattle.words.proofs.Strings.{stands_length, stands_trans}
use Rattle.trays.specs.Slips.{slip}
use Rattle.trays.specs.Aside.{aside_for, is_aside, kept}
use Rattle.trays.proofs.Kept.{stands_same, aside_longer, aside_equal, aside_cases, kept_asc, in_kept, kept_in_lem}

pub record StandsFor (ss : List (List ℕ)) (N : List ℕ) (i k : ℕ) : Type 0 where
  pub aside : aside_for ss i k ≡ true
  pub covers : (a : ℕ) → In a N → aside_for ss a i ≡ true → aside_for ss a k ≡ true

pub record Spare (ss : List (List ℕ)) (M N : List ℕ) : Type 0 where
  pub within : (i : ℕ) → In i M → In i N
  pub cover : (i : ℕ) → In i N → In i M ⊎ ((k : ℕ) × In k M × StandsFor ss N i k)

module _ (ss : List (List ℕ)) where
  pub stands_equal : (N : List ℕ) (i k : ℕ) → k < i → slip ss i ≡ slip ss k → StandsFor ss N i k
  stands_equal N i k h e = record {
    aside = aside_equal ss i k h e;
    covers = λ a m t. elim (aside_cases ss a i t) [
      | inl (l, s) ↦ aside_longer ss a k (omega (arith, ap length e)) (rw e at s)
      | inr (l, s) ↦ aside_equal ss a k (omega arith) (s ∙ e)
    ];
  }

  pub stands_within :
      (N : List ℕ) (z k : ℕ) → ((a : ℕ) → In a N → a ≤ z) → k < z → stands_in (slip ss z) (slip ss k) ≡ true → StandsFor ss N z k
  stands_within N z k last h e = record {
    aside = elim (dec_lt (length (slip ss z)) (length (slip ss k))) [
      | yes l ↦ aside_longer ss z k l e
      | no l ↦ aside_equal ss z k h (stands_same (slip ss z) (slip ss k) e (omega arith))
    ];
    covers = λ a m t. elim (aside_cases ss a z t) [
      | inl (l, s) ↦
          aside_longer ss a k (omega (arith, stands_length (slip ss z) (slip ss k) e)) (stands_trans (slip ss a) (slip ss z) (slip ss k) s e)
      | inr (l, s) ↦ absurd (omega (arith, last a m))
    ];
  }

  module _ {M N : List ℕ} (C : Spare ss M N) where
    aside_spare : (a : ℕ) → In a N → is_aside ss N a ≡ is_aside ss M a
    aside_spare a n =
        same_test (is_aside ss N a) (is_aside ss M a)
        (λ t. let (i, m, e) = any_in (aside_for ss a) N t in elim (C.cover i m) [
          | inl q ↦ in_any (aside_for ss a) q e
          | inr (k, q, s) ↦ in_any (aside_for ss a) q (s.covers a n e)
        ])
        (λ t. let (i, m, e) = any_in (aside_for ss a) M t in in_any (aside_for ss a) (C.within i m) e)

    pub kept_spare : Asc ◌<◌ M → Asc ◌<◌ N → kept ss M ≡ kept ss N
    kept_spare p q =
        asc_one ◌<◌ (λ a h. omega arith) (λ a b c h l. omega arith) (kept ss M) (kept ss N) (kept_asc ss M p) (kept_asc ss N q)
        (λ a m. let (i, e) = in_kept ss M m in kept_in_lem ss N (C.within a i) (aside_spare a (C.within a i) ∙ e))
        (λ a m. let (i, e) = in_kept ss N m in elim (C.cover a i) [
          | inl r ↦ kept_in_lem ss M r (sym (aside_spare a i) ∙ e)
          | inr (k, r, s) ↦ absurd (not_both (is_aside ss N a) (in_any (aside_for ss a) (C.within k r) s.aside) e)
        ])
