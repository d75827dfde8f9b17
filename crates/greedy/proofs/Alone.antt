-- Members that ascend from 1 compose as a tray that holds these only.
--   only_of c      == the members of what is composed, as slips of their own
--   nth-entry     == the numbering of that tray's slips (Chosen) is the list of the members
--   NAME-alone    == NAME of a member is NAME of that tray's slip
--   alone_of      == all that is composed
-- The numbering by the members renumbers the tray of their own (Chosen), and everything that is composed goes along with a renumbering (Relabel).
use mathlib.Core.Path.{◌≡◌, refl, sym, ap, ◌∙◌}
use mathlib.Core.List.{List, map}
use Prim.Native.Nat.{ℕ, zero, suc, ◌+◌, ◌≤◌}
use native.Mathlib.Omega.{arith}
use lib.ListN.{length, length-map}
use Rattle.words.specs.Lists.{entry}
use Rattle.words.proofs.Members.{In, in_up_from}
use Rattle.words.proofs.Picks.{get_d_default}
use Rattle.words.proofs.Sums.{all_in}
use Rattle.words.proofs.Maps.{map_same, map_agree}
use Rattle.trays.specs.Slips.{slip, numbers, only}
use Rattle.trays.specs.Aside.{is_aside, kept}
use Rattle.trays.proofs.Kept.{in_kept}
use Rattle.greedy.specs.Joins.{plain_for, rejoin}
use Rattle.greedy.specs.Composing.{Composing, rule, joins_of, legend_of, place_of, compared_of}
use Rattle.greedy.specs.Sides.{Alone}
use Rattle.greedy.proofs.Relabel.{Renumbers, Within, relabel, plain_in, saved_relabel, total_relabel, is_aside_relabel, kept_relabel}
use Rattle.greedy.proofs.Relabel.{kept_renumbers, joins_relabel, legend_relabel, place_for_relabel, compared_for_relabel}
use Rattle.greedy.proofs.Chosen.{Real, numbers_real, nth, nth_renumbers, nth-numbers}
use Rattle.greedy.proofs.GreedyLegends.{greedy_of}

abbrev pub only_of : Composing → Composing
only_of c = let os = only c.slips c.members in record { slips = os; members = numbers os; least = c.least }

pub nth-entry : (n : ℕ) (M : List ℕ) (i : ℕ) → i ≤ length M → nth M n i ≡ entry M i
nth-entry n M zero h = refl
nth-entry n M (suc i) h = get_d_default M i (suc i + n) 0 h

module _ (c : Composing) {n : ℕ} (R : Real n c.members) where
  abbrev ss : List (List ℕ)
  ss = c.slips

  abbrev M : List ℕ
  M = c.members

  abbrev os : List (List ℕ)
  os = only c.slips c.members

  abbrev f : ℕ → ℕ
  f i = nth c.members n i

  h : Renumbers f os ss (numbers os)
  h = nth_renumbers R ss

  all : map f (numbers os) ≡ M
  all = nth-numbers R ss

  known : (i : ℕ) → In i (numbers os) → f i ≡ entry M i
  known i m = nth-entry n M i (omega (arith, in_up_from 1 (length os) m, length-map M (slip ss)))

  known_kept : (i : ℕ) → In i (kept os (numbers os)) → f i ≡ entry M i
  known_kept i m = known i (in_kept os (numbers os) m).0

  pub letters_alone : (i : ℕ) → In i (numbers os) → slip ss (entry M i) ≡ slip os i
  letters_alone i m = rw (← known i m) (h.letters i m)

  pub aside_alone : (i : ℕ) → In i (numbers os) → is_aside ss M (entry M i) ≡ is_aside os (numbers os) i
  aside_alone i m = rw (← known i m) (ap (λ (N : List ℕ). is_aside ss N (f i)) (sym all) ∙ is_aside_relabel h i m)

  pub place_alone : (i : ℕ) → In i (numbers os) → place_of c (entry M i) ≡ place_of (only_of c) i
  place_alone i m =
      rw (← known i m) (ap (λ (N : List ℕ). place_of (record { slips = ss; members = N; least = c.least }) (f i)) (sym all) ∙ place_for_relabel h (rule c) i m)

  pub compared_alone : (i : ℕ) → In i (numbers os) → compared_of c (entry M i) ≡ compared_of (only_of c) i
  compared_alone i m =
      rw (← known i m)
      (ap (λ (N : List ℕ). compared_of (record { slips = ss; members = N; least = c.least }) (f i)) (sym all) ∙ compared_for_relabel h (rule c) i m)

  -- for the members, one after another
  one_by_one : {A : Type 0} (g k : ℕ → A) → ((i : ℕ) → In i (numbers os) → g (entry M i) ≡ k i) → map g M ≡ map k (numbers os)
  one_by_one g k e =
      ap (map g) (sym all)
      ∙ map_same f (λ i. In i (numbers os)) k g (λ i m. ap g (known i m) ∙ e i m) (numbers os) (all_in _ (numbers os) (λ i m. m))

  keeps : kept ss M ≡ map f (kept os (numbers os))
  keeps = ap (kept ss) (sym all) ∙ kept_relabel h

  joins : joins_of c ≡ relabel f (joins_of (only_of c))
  joins = ap (λ (N : List ℕ). plain_for (rule c) ss (kept ss N)) (sym all) ∙ joins_relabel h (rule c)

  joins_are : joins_of c ≡ map (rejoin (entry M)) (joins_of (only_of c))
  joins_are =
      joins
      ∙ map_agree (rejoin f) (Within (kept os (numbers os))) (rejoin (entry M))
      (λ j w. rw (known_kept j.left w.0, known_kept j.right w.1)) (joins_of (only_of c)) (plain_in (rule c) os (kept os (numbers os)))

  pub alone_of : Alone c (only_of c)
  alone_of =
      record {
        members_are = sym all ∙ map_agree f (λ i. In i (numbers os)) (entry M) known (numbers os) (all_in _ (numbers os) (λ i m. m));
        kept_are =
            keeps ∙ map_agree f (λ i. In i (kept os (numbers os))) (entry M) known_kept (kept os (numbers os)) (all_in _ (kept os (numbers os)) (λ i m. m));
        joins_are = joins_are;
        walk_is =
            (greedy_of c R).one_list
            ∙ (joins_are ∙ ap (map (rejoin (entry M))) (sym (greedy_of (only_of c) (numbers_real os)).one_list));
        legend_is = ap (λ (N : List ℕ). legend_of (record { slips = ss; members = N; least = c.least })) (sym all) ∙ legend_relabel h (rule c);
        aside_are = one_by_one (is_aside ss M) (is_aside os (numbers os)) aside_alone;
        places_are = one_by_one (place_of c) (place_of (only_of c)) place_alone;
        compared_are = one_by_one (compared_of c) (compared_of (only_of c)) compared_alone;
        letters_are = rw keeps (total_relabel (kept_renumbers h));
        saved-is = rw joins (saved_relabel f (joins_of (only_of c)));
      }
