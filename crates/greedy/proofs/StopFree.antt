-- With a least overlap of 1, and where no kept slip begins with a stop, every overlap that has a letter counts.
--   plain_agree     == two rules that give the slips of K the same overlaps make the same joins
--   plain-free      == so the joins are those of all overlaps that have a letter, where no slip of K begins with a stop
--   stop_free_at     == none of the slips begins with a stop
--   stop_free-kept   == no slip begins with a stop: so no kept slip does
use mathlib.Core.Path.{◌≡◌, refl, sym, ◌∙◌}
use mathlib.Core.Bool.{Bool, true, false}
use mathlib.Core.List.{List, [], ◌∷◌}
use Prim.Native.Nat.{ℕ}
use borrow.Author.Tests.{not-true}
use Rattle.words.specs.Lists.{any}
use Rattle.words.specs.Words.{begins, non_empty, overlap_for}
use Rattle.words.proofs.Tests.{by_test}
use Rattle.words.proofs.Members.{In, any_none, none_any}
use Rattle.words.proofs.Overlaps.{overlap_for-non_empty}
use Rattle.words.proofs.Picks.{each_agree}
use Rattle.trays.specs.Slips.{slip, slips_of, stop}
use Rattle.trays.specs.Aside.{is_aside, kept, counted}
use Rattle.trays.proofs.Kept.{in_kept}
use Rattle.trays.proofs.Stops.{overlap_for-free}
use Rattle.greedy.specs.Joins.{arc, arcs, plain_for}
use Rattle.greedy.specs.Legends.{place_for}
use Rattle.greedy.specs.Composing.{Composing, usual, whole, kept_of}
use Rattle.greedy.specs.Claims.{stop_free, AllCount, StopFree}

module _ (counts counts' : List ℕ → Bool) (ss : List (List ℕ)) (K : List ℕ)
    (same : (l r : ℕ) → In l K → In r K → overlap_for counts (slip ss l) (slip ss r) ≡ overlap_for counts' (slip ss l) (slip ss r)) where
  arcs_agree : arcs counts ss K ≡ arcs counts' ss K
  arcs_agree =
      each_agree _ _ K (λ l m. each_agree (arc counts ss l) (arc counts' ss l) K (λ r n. rw (same l r m n)))

  pub plain_agree : plain_for counts ss K ≡ plain_for counts' ss K
  plain_agree = rw arcs_agree

module _ (ss : List (List ℕ)) where
  pub stop_free_at : (K : List ℕ) → stop_free ss K ≡ true → (i : ℕ) → In i K → begins (stop ∷ []) (slip ss i) ≡ false
  stop_free_at K h = none_any (λ i. begins (stop ∷ []) (slip ss i)) K (not-true (any (λ i. begins (stop ∷ []) (slip ss i)) K) h)

  pub stop_free-kept : (M : List ℕ) → stop_free ss M ≡ true → stop_free ss (kept ss M) ≡ true
  stop_free-kept M h =
      rw (any_none (λ i. begins (stop ∷ []) (slip ss i)) (kept ss M) (λ i m. stop_free_at M h i (in_kept ss M m).0))

  pub plain-free : (m : ℕ) → m ≡ 1 → (K : List ℕ) → stop_free ss K ≡ true → plain_for (counted m) ss K ≡ plain_for non_empty ss K
  plain-free m one K h =
      plain_agree (counted m) non_empty ss K
      (λ l r i n. overlap_for-free m one (slip ss l) (slip ss r) (stop_free_at K h r n) ∙ sym (overlap_for-non_empty (slip ss l) (slip ss r)))

pub all_count : (c : Composing) → c.least ≡ 1 → stop_free c.slips (kept_of c) ≡ true → AllCount c
all_count c one h =
    let e = plain-free c.slips c.least one (kept_of c) h in
    record {
      joins_are = e;
      legend_is = rw e;
      places_are = λ i. by_test (is_aside c.slips c.members i) (λ t. rw (t, place_for, e)) (λ t. rw (t, place_for, e));
      compared_are = λ i. rw e;
    }

pub stop-free : StopFree
stop-free s es accepted = all_count (whole usual (slips_of s es)) refl
