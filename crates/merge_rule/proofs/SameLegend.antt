-- Two lists of slips merged have the legend of the two written one after the other, whatever overlaps count.
--   Covers eq M N  == of the numbers N those not in M equal, by eq, an earlier one that is in M
--   covers_those   == so among the numbers that pass a test which equals pass alike
--   covers_spare   == where equals have equal letters, M may stand for N
--   picked eq n k  == of the numbers 1 to n, and after them k more, those that are written; eq tells which are equal
--   picked_covers  == they cover all the numbers; picked_real == they ascend, and are among them
--   picked_is      == any two lists merged are the members of the long list by these numbers
--   picked_of ws xs  == the numbers, in the long list, of the slips written
--   picked_of_real   == they ascend, and are numbers of slips
--   merged-only    == the slips merged are those of the long list by these numbers
--   only-map       == the letters of slips chosen are chosen from the letters of all
--   all_legend counts ss == the legend of all the slips ss
--   part_legend counts f t zs == the legend of those of zs that pass the test t, where f reads a slip's letters
--   legend_merged  == it is the same of the slips merged and of the long list
-- Merging slips is merging their numbers in the long list. What is left out equals an earlier slip that is written, and passes a test where that one does. So
-- of the slips that pass it those written may stand for all; and slips chosen from a tray have the legend that they have as a tray of their own.
use mathlib.Core.Path.{◌≡◌, refl, sym, ap, ◌∙◌}
use mathlib.Core.Bool.{Bool, true}
use mathlib.Core.Logic.{◌⊎◌, inl, inr}
use mathlib.Core.List.{List, [], ◌++◌, map}
use Prim.Native.Nat.{ℕ, zero, suc, ◌+◌, ◌<◌}
use native.Mathlib.Nat.{add_assoc}
use native.Mathlib.Numerals.{one-add}
use native.Mathlib.Omega.{arith}
use lib.ListN.{length, get_or, length-append, get_or-append, get_or-map}
use lib.Seq.{get_or-append-add}
use Rattle.words.specs.Lists.{those, up_from}
use Rattle.words.specs.Words.{same}
use Rattle.words.proofs.Members.{In, Asc, those_in, in_those, in_up_from, asc_up_from, asc_those}
use Rattle.words.proofs.Sums.{all_in}
use Rattle.words.proofs.Maps.{those-map, map_same}
use Rattle.words.proofs.Runs.{up_from_append, map_places}
use Rattle.words.proofs.Orders.{same-is}
use Rattle.trays.specs.Slips.{slip, numbers, only}
use Rattle.trays.proofs.LeftOut.{Spare, stands_equal}
use Rattle.greedy.specs.Legends.{legend_for}
use Rattle.greedy.proofs.Chosen.{Real, numbers_real, only_all, legend_only, legend_spare}
use Rattle.merge_rule.specs.Merging.{merged}
use Rattle.merge_rule.proofs.Merged.{merged_in, merged_rise, merged_cover, merged-map}

pub record Covers (eq : ℕ → ℕ → Bool) (M N : List ℕ) : Type 0 where
  pub within : (i : ℕ) → In i M → In i N
  pub cover : (i : ℕ) → In i N → In i M ⊎ ((k : ℕ) × In k M × (k < i) × (eq i k ≡ true))

pub covers_those : {eq : ℕ → ℕ → Bool} {M N : List ℕ} (t : ℕ → Bool) → ((i k : ℕ) → eq i k ≡ true → t k ≡ t i) → Covers eq M N →
    Covers eq (those t M) (those t N)
covers_those {M = M} {N = N} t h c =
    record {
      within = λ i m. let (j, e) = in_those t M m in those_in t (c.within i j) e;
      cover = λ i m.
          let (j, e) = in_those t N m in
          elim (c.cover i j) [ inl q ↦ inl (those_in t q e) | inr (k, q, l, f) ↦ inr (k, those_in t q (h i k f ∙ e), l, f) ];
    }

pub covers_spare : (ss : List (List ℕ)) (eq : ℕ → ℕ → Bool) → ((i k : ℕ) → eq i k ≡ true → slip ss i ≡ slip ss k) → {M N : List ℕ} →
    Covers eq M N → Spare ss M N
covers_spare ss eq h {N = N} c =
    record {
      within = c.within;
      cover = λ i m. elim (c.cover i m) [ inl q ↦ inl q | inr (k, q, l, f) ↦ inr (k, q, stands_equal ss N i k l (h i k f)) ];
    }

abbrev pub picked : (ℕ → ℕ → Bool) → ℕ → ℕ → List ℕ
picked eq n k = merged eq (up_from 1 n) (up_from (1 + n) k)

module _ (eq : ℕ → ℕ → Bool) (n k : ℕ) where
  rising : Asc ◌<◌ (up_from 1 n ++ up_from (1 + n) k)
  rising = rw (up_from_append 1 n k) (asc_up_from 1 (n + k))

  pub picked_covers : Covers eq (picked eq n k) (up_from 1 (n + k))
  picked_covers =
      record {
        within = λ i m. rw (up_from_append 1 n k) at (merged_in eq (up_from 1 n) (up_from (1 + n) k) m);
        cover = λ i m. merged_cover eq ◌<◌ (up_from 1 n) (up_from (1 + n) k) rising i (rw (up_from_append 1 n k) m);
      }

  pub picked_real : Real (n + k) (picked eq n k)
  picked_real =
      record {
        rise = merged_rise eq ◌<◌ (up_from 1 n) (up_from (1 + n) k) rising;
        real = λ i m. omega (arith, in_up_from 1 (n + k) (picked_covers.within i m));
      }

pub picked_is : {A : Type 0} (d : A) (eq : A → A → Bool) (ws xs : List A) (g : ℕ → A) → ((i : ℕ) → g (suc i) ≡ get_or (ws ++ xs) i d) →
    merged eq ws xs ≡ map g (picked (λ i k. eq (g i) (g k)) (length ws) (length xs))
picked_is d eq ws xs g h =
    rw (map_places d g 1 ws first, map_places d g (1 + length ws) xs second) at
    (merged-map g eq (up_from 1 (length ws)) (up_from (1 + length ws) (length xs)))
  where
    first : (i : ℕ) → i < length ws → g (1 + i) ≡ get_or ws i d
    first i l = rw one-add (h i ∙ get_or-append ws xs d i l)

    second : (i : ℕ) → i < length xs → g (1 + length ws + i) ≡ get_or xs i d
    second i l = rw (add_assoc, one-add) (h (length ws + i) ∙ get_or-append-add ws xs i d)

-- where f reads a slip's letters, and a slip that is not there has none
module _ (f : List ℕ → List ℕ) (none : f [] ≡ []) where
  slip-map : (zs : List (List ℕ)) (i : ℕ) → slip (map f zs) i ≡ f (slip zs i)
  slip-map zs zero = sym none
  slip-map zs (suc i) = rw none at (get_or-map f zs i [])

  pub only-map : (zs : List (List ℕ)) (M : List ℕ) → map f (only zs M) ≡ only (map f zs) M
  only-map zs M = map_same (slip zs) (λ i. Unit {0}) (slip (map f zs)) f (λ i p. sym (slip-map zs i)) M (all_in _ M (λ i m. tt))

-- all of a tray's slips take part
abbrev pub all_legend : (List ℕ → Bool) → List (List ℕ) → List ℕ
all_legend counts ss = legend_for counts ss (numbers ss)

abbrev pub part_legend : (List ℕ → Bool) → (List ℕ → List ℕ) → (List ℕ → Bool) → List (List ℕ) → List ℕ
part_legend counts f t zs = legend_for counts (map f zs) (those (λ i. t (slip zs i)) (numbers zs))

-- the legend of those of M that pass the test is that of the tray that holds these only
module _ (counts : List ℕ → Bool) (f : List ℕ → List ℕ) (none : f [] ≡ []) (t : List ℕ → Bool) (zs : List (List ℕ)) {n : ℕ} (M : List ℕ) (R : Real n M) where
  abbrev passes : ℕ → Bool
  passes i = t (slip zs i)

  passing_real : Real n (those passes M)
  passing_real = record { rise = asc_those ◌<◌ passes M R.rise; real = λ i m. R.real i (in_those passes M m).0 }

  only_passing : only (map f zs) (those passes M) ≡ map f (those t (only zs M))
  only_passing =
      sym (only-map f none zs (those passes M))
      ∙ ap (map f) (sym (those-map (slip zs) (λ i. Unit {0}) passes t (λ i p. refl) M (all_in _ M (λ i m. tt))))

  passing_legend : legend_for counts (map f zs) (those passes M) ≡ all_legend counts (map f (those t (only zs M)))
  passing_legend = legend_only counts (map f zs) (those passes M) passing_real ∙ ap (all_legend counts) only_passing

module _ (ws xs : List (List ℕ)) where
  abbrev equals : ℕ → ℕ → Bool
  equals i k = same (slip (ws ++ xs) i) (slip (ws ++ xs) k)

  abbrev pub picked_of : List ℕ
  picked_of = picked equals (length ws) (length xs)

  pub picked_of_real : Real (length (ws ++ xs)) picked_of
  picked_of_real = rw (length-append ws xs) (picked_real equals (length ws) (length xs))

  picked_of_covers : Covers equals picked_of (numbers (ws ++ xs))
  picked_of_covers = rw (length-append ws xs) (picked_covers equals (length ws) (length xs))

  pub merged-only : merged same ws xs ≡ only (ws ++ xs) picked_of
  merged-only = picked_is [] same ws xs (slip (ws ++ xs)) (λ i. refl)

  module _ (counts : List ℕ → Bool) (f : List ℕ → List ℕ) (none : f [] ≡ []) (t : List ℕ → Bool) where
    abbrev wanted : ℕ → Bool
    wanted i = t (slip (ws ++ xs) i)

    wanted_spare : Spare (map f (ws ++ xs)) (those wanted picked_of) (those wanted (numbers (ws ++ xs)))
    wanted_spare =
        let zs = ws ++ xs in
        let is : (i k : ℕ) → equals i k ≡ true → slip zs i ≡ slip zs k = λ i k. same-is (slip zs i) (slip zs k) in
        covers_spare (map f zs) equals (λ i k e. slip-map f none zs i ∙ (ap f (is i k e) ∙ sym (slip-map f none zs k)))
        (covers_those wanted (λ i k e. ap t (sym (is i k e))) picked_of_covers)

    pub legend_merged : part_legend counts f t (merged same ws xs) ≡ part_legend counts f t (ws ++ xs)
    legend_merged =
        let m = merged same ws xs in
        let zs = ws ++ xs in
        passing_legend counts f none t m (numbers m) (numbers_real m)
        ∙ (ap (λ ys. all_legend counts (map f (those t ys))) (only_all m ∙ merged-only)
        ∙ (sym (passing_legend counts f none t zs picked_of picked_of_real)
        ∙ legend_spare counts (map f zs) wanted_spare (passing_real counts f none t zs picked_of picked_of_real).rise
        (passing_real counts f none t zs (numbers zs) (numbers_real zs)).rise))
