-- Lists of marks: at the start, and with one join more.
--   set_cases    == what the marks are when one is set
--   tells-..     == a list of marks that tells a function of the slips: one of them, one set
--   Owning i xs  == the first i slips are marked as their own
--   ends-..      == chain ends as a table: a mark, a slip beyond the list, every slip its own
--   zeros-..     == how many marks are 0: all at the start, one fewer when one is set
--   over-..      == overlaps with one join more
--   marks_none   == marks without a join
--   marks_join   == the marks when r is joined behind l
-- The first slip of the chain that l ends and the last of the chain that r begins are slips of the lists: beyond the lists each slip is its own.
use mathlib.Core.Path.{◌≡◌, refl, sym, ap, fun_ext, ◌∙◌}
use mathlib.Core.List.Memᴰ
use mathlib.Core.List.{List, [], ◌∷◌, ◌++◌}
use mathlib.Core.Logic.{inl, inr}
use Prim.Native.Nat.{ℕ, zero, suc, ◌+◌, ◌-◌, ◌≤◌, ◌<◌}
use native.Mathlib.Decide.{ℕ_discrete, dec_lt}
use native.Mathlib.Numerals.{add-one, sub-one}
use native.Mathlib.Omega.{arith}
use lib.Dec.{eqb}
use lib.ListN.{length, get_or, set, take, replicate, length-set, length-replicate, get_or-replicate, length-append, get_or-eq_default}
use lib.Seq.{get_or-set_same, get_or-set_other, take-suc-set}
use borrow.Author.Tests.{eq-eqb, ne_eqb}
use Rattle.words.proofs.Runs.{length-up_from, up_from_more}
use Rattle.words.specs.Lists.{up_from}
use Rattle.words.proofs.Tests.{tell}
use Rattle.words.proofs.Members.{In, those-yes, those_no}
use Rattle.words.proofs.Picks.{get_d_default}
use Rattle.trays.specs.Limits.{max_slips}
use Rattle.greedy.specs.Joins.{Join, join, right_of, left_of, last_of}
use Rattle.greedy.specs.Legends.{overlap_after}
use Rattle.greedy.proofs.Linked as L
use Rattle.greedy.proofs.Threads.{threads_none, threads_join}
use Rattle.layout.specs.Staging.{Neighbours}
use Rattle.walk_offer.specs.Steps.Runs.{mark}
use Rattle.walk_offer.specs.Steps.Marks.{chain_ends, zeros, Marked}
use Rattle.walk_offer.specs.declared.Marks.{Marks}
use Rattle.walk_offer.specs.Steps.Offers.{EndsFit, EndsJoined}

-- every slip marked as its own

pub record Owning (i : ℕ) (xs : List ℕ) : Type 0 where
  pub size : length xs ≡ max_slips
  pub upto : i ≤ max_slips
  pub own : take i xs ≡ up_from 1 i

module _ {i : ℕ} {xs : List ℕ} (O : Owning i xs) where
  pub own_turn : i < length xs → Owning (i + 1) (set xs i (i + 1))
  own_turn h =
      let n : 1 + i ≡ suc i = omega arith in
      record {
        size = length-set xs i (i + 1) ∙ O.size;
        upto = omega (arith, O.size);
        own = rw add-one (take-suc-set xs i (suc i) h ∙ ap (λ l. l ++ (suc i ∷ [])) O.own ∙ sym (up_from_more 1 i ∙ rw n));
      }

pub mark_at : (xs : List ℕ) (i : ℕ) → mark xs (suc i) ≡ get_or xs i 0
mark_at xs i = rw (sub-one (suc i))

-- the mark of slip a set to v: it is v, the others are as they were
set_cases : (P : ℕ → Type 0) (xs : List ℕ) (a v i d : ℕ) → (1 ≤ a) × (a ≤ length xs) → (suc i ≡ a → P v) → ((suc i ≡ a → ⊥) → P (get_or xs i d)) →
    P (get_or (set xs (a - 1) v) i d)
set_cases P xs a v i d h now other =
    elim (ℕ_discrete (suc i) a) [
      | yes e ↦ let q : a - 1 ≡ i = omega arith in rw (q, get_or-set_same xs i v d (omega arith)) (now e)
      | no n ↦ rw (get_or-set_other xs (a - 1) i v d (λ e. n (omega arith))) (other n)
    ]

module _ (xs : List ℕ) (f : ℕ → ℕ) (tells : (i : ℕ) → i < max_slips → get_or xs i 0 ≡ f (suc i)) where
  tells_mark : (i : ℕ) → 1 ≤ i → i ≤ max_slips → mark xs i ≡ f i
  tells_mark zero h l = absurd (omega arith)
  tells_mark (suc i) h l = mark_at xs i ∙ tells i l

  tells_set : length xs ≡ max_slips → (g : ℕ → ℕ) (a v : ℕ) → (1 ≤ a) × (a ≤ max_slips) → g a ≡ v → ((i : ℕ) → (i ≡ a → ⊥) → g i ≡ f i) →
      (i : ℕ) → i < max_slips → get_or (set xs (a - 1) v) i 0 ≡ g (suc i)
  tells_set s g a v h now other i l =
      set_cases (λ x. x ≡ g (suc i)) xs a v i 0 (rw s h) (λ e. rw (e, now)) (λ n. tells i l ∙ sym (other (suc i) n))

-- chain ends
pub ends-mark : (xs : List ℕ) (i : ℕ) → 1 ≤ i → i ≤ length xs → chain_ends xs i ≡ mark xs i
ends-mark xs zero h l = absurd (omega arith)
ends-mark xs (suc i) h l = rw (mark_at xs i) (get_d_default xs i (suc i) 0 l)

pub ends-beyond : (xs : List ℕ) (i : ℕ) → length xs < i → chain_ends xs i ≡ i
ends-beyond xs zero h = absurd (omega arith)
ends-beyond xs (suc i) h = get_or-eq_default xs (suc i) (omega arith)

pub ends_own : chain_ends (up_from 1 max_slips) ≡ (λ i. i)
ends_own = fun_ext at
  where
    own : (n i k : ℕ) → get_or (up_from k n) i (k + i) ≡ k + i
    own zero i k = refl
    own (suc n) zero k = omega arith
    own (suc n) (suc i) k = let e : k + suc i ≡ suc k + i = omega arith in rw e (own n i (suc k))

    at : (i : ℕ) → chain_ends (up_from 1 max_slips) i ≡ i
    at zero = refl
    at (suc i) = let e : 1 + i ≡ suc i = omega arith in rw e at (own max_slips i 1)

-- what has its end in the list stands in the list
ends_within : (xs : List ℕ) (a e : ℕ) → chain_ends xs a ≡ e → 1 ≤ e → e ≤ max_slips → length xs ≡ max_slips → (1 ≤ a) × (a ≤ max_slips)
ends_within xs zero e q h k s = absurd (omega arith)
ends_within xs (suc a) e q h k s =
    elim (dec_lt max_slips (suc a)) [
      | yes l ↦ absurd (omega (arith, ends-beyond xs (suc a) (omega arith)))
      | no l ↦ (omega arith, omega arith)
    ]

-- marks that are 0
zeros_all : (n : ℕ) → zeros (replicate n 0) ≡ n
zeros_all zero = refl
zeros_all (suc n) = ap suc (zeros_all n)

pub zeros-set : (xs : List ℕ) (i v : ℕ) → i < length xs → get_or xs i 0 ≡ 0 → 1 ≤ v → suc (zeros (set xs i v)) ≡ zeros xs
zeros-set [] i v h e k = absurd (omega arith)
zeros-set (x ∷ xs) zero v h e k =
    ap suc (ap length (those_no (λ x. eqb x 0) v xs (ne_eqb v 0 (λ q. omega arith))))
    ∙ sym (ap length (those-yes (λ x. eqb x 0) x xs (eq-eqb x 0 e)))
zeros-set (x ∷ xs) (suc i) v h e k =
    let r = zeros-set xs i v (omega arith) e k in
    elim (tell (eqb x 0)) [
      | inl t ↦
          ap suc (ap length (those-yes (λ x. eqb x 0) x (set xs i v) t)) ∙ ap suc r
          ∙ sym (ap length (those-yes (λ x. eqb x 0) x xs t))
      | inr t ↦
          ap suc (ap length (those_no (λ x. eqb x 0) x (set xs i v) t)) ∙ r
          ∙ sym (ap length (those_no (λ x. eqb x 0) x xs t))
    ]

zeros-some : (xs : List ℕ) (i : ℕ) → i < length xs → get_or xs i 0 ≡ 0 → 1 ≤ zeros xs
zeros-some xs i h e = omega (arith, zeros-set xs i 1 h e (omega arith))

-- overlaps
over_other : (i : ℕ) (js : List Join) (j : Join) → (i ≡ j.left → ⊥) → overlap_after i (js ++ (j ∷ [])) ≡ overlap_after i js
over_other i [] j n = rw (ne_eqb i j.left n, overlap_after)
over_other i (k ∷ js) j n =
    elim (tell (eqb i k.left)) [ inl e ↦ rw (e, overlap_after) | inr e ↦ rw (e, overlap_after) (over_other i js j n) ]

over_joined : (js : List Join) → ((j : Join) → In j js → (1 ≤ j.left) × (1 ≤ j.right)) → (l r d : ℕ) → right_of l js ≡ 0
    → overlap_after l (js ++ (join l r d ∷ [])) ≡ d
over_joined [] real l r d z = rw (eq-eqb l l refl, overlap_after)
over_joined (j ∷ js) real l r d z =
    elim (tell (eqb l j.left)) [
      | inl e ↦ absurd (omega (arith, rw (e, right_of) at z, real j (Memᴰ.head refl)))
      | inr e ↦ rw (e, overlap_after) (over_joined js (λ k m. real k (Memᴰ.tail m)) l r d (rw (e, right_of) at z))
    ]

pub marks_none : (marks : Marks) → marks.left ≡ replicate max_slips 0 → marks.right ≡ replicate max_slips 0 → marks.overs ≡ replicate max_slips 0 →
    marks.first ≡ up_from 1 max_slips → marks.last ≡ up_from 1 max_slips → Marked [] marks
marks_none marks l r o f e =
    record {
      neighbours = record {
        lefts = ap length l ∙ length-replicate {A = ℕ} max_slips 0;
        rights = ap length r ∙ length-replicate {A = ℕ} max_slips 0;
        overlaps = ap length o ∙ length-replicate {A = ℕ} max_slips 0;
        left_is = λ i h. rw (l, get_or-replicate {A = ℕ} max_slips i 0 0 h);
        right_is = λ i h. rw (r, get_or-replicate {A = ℕ} max_slips i 0 0 h);
        overlap-is = λ i h. rw (o, get_or-replicate {A = ℕ} max_slips i 0 0 h);
      };
      firsts = ap length f ∙ length-up_from 1 max_slips;
      lasts = ap length e ∙ length-up_from 1 max_slips;
      linked = L.linked_none;
      threads = rw (f, e, ends_own) threads_none;
      small = λ i. omega arith;
      spare = rw (l, zeros_all max_slips);
    }

module _ {js : List Join} {marks : Marks} (M : Marked js marks) where
  abbrev N : Neighbours js marks.left marks.right marks.overs
  N = M.neighbours

  pub left-mark : (i : ℕ) → 1 ≤ i → i ≤ max_slips → mark marks.left i ≡ left_of i js
  left-mark = tells_mark marks.left (λ i. left_of i js) N.left_is

  pub right_mark : (i : ℕ) → 1 ≤ i → i ≤ max_slips → mark marks.right i ≡ right_of i js
  right_mark = tells_mark marks.right (λ i. right_of i js) N.right_is

  -- the last slip of the chain that r begins
  pub last_mark : (r : ℕ) → 1 ≤ r → r ≤ max_slips → mark marks.left r ≡ 0 → mark marks.last r ≡ last_of r js
  last_mark r h l z =
      sym (ends-mark marks.last r h (omega (arith, M.lasts))) ∙ sym (M.threads.last_is r (sym (left-mark r h l) ∙ z))

  -- there is room for one join more
  pub marks_room : (r : ℕ) → 1 ≤ r → r ≤ max_slips → mark marks.left r ≡ 0 → length js < max_slips
  marks_room r h l z = omega (arith, M.spare, zeros-some marks.left (r - 1) (omega (arith, N.lefts)) z)

  -- a chain of a slip of the lists has both its ends there
  begin_real : (l : ℕ) → 1 ≤ l → l ≤ max_slips → right_of l js ≡ 0 → (1 ≤ chain_ends marks.first l) × (chain_ends marks.first l ≤ max_slips)
  begin_real l h k z = ends_within marks.last (chain_ends marks.first l) l (M.threads.first-is l z).1 h k M.lasts

  end_real : (r : ℕ) → 1 ≤ r → r ≤ max_slips → left_of r js ≡ 0 → (1 ≤ chain_ends marks.last r) × (chain_ends marks.last r ≤ max_slips)
  end_real r h k z = ends_within marks.first (chain_ends marks.last r) r (M.threads.back r z) h k M.firsts

  -- r joined behind l
  module _
      (l r d : ℕ) (hl : (1 ≤ l) × (l ≤ max_slips)) (hr : (1 ≤ r) × (r ≤ max_slips))
      (zl : mark marks.right l ≡ 0) (zr : mark marks.left r ≡ 0) (cycle : l ≡ mark marks.last r → ⊥) where
    right_none : right_of l js ≡ 0
    right_none = sym (right_mark l hl.0 hl.1) ∙ zl

    left_none : left_of r js ≡ 0
    left_none = sym (left-mark r hr.0 hr.1) ∙ zr

    pub ends_fit : EndsFit marks.first marks.last l r
    ends_fit =
        record {
          firsts = M.firsts;
          lasts = M.lasts;
          left = hl;
          right = hr;
          begin = begin_real l hl.0 hl.1 right_none;
          end = end_real r hr.0 hr.1 left_none;
        }

    abbrev more : List Join
    more = js ++ (join l r d ∷ [])

    right_now : right_of l more ≡ r
    right_now = L.right_joined js M.linked l r d hl.0 hr.0 right_none left_none

    right_others : (i : ℕ) → (i ≡ l → ⊥) → right_of i more ≡ right_of i js
    right_others = L.right_other js M.linked l r d hl.0 hr.0 right_none left_none

    small_new : (i : ℕ) → right_of i more ≤ max_slips
    small_new i =
        elim (ℕ_discrete i l) [
          | yes e ↦ rw (e, right_now) hr.1
          | no n ↦ rw (right_others i n) (M.small i)
        ]

    pub marks_join : (marks' : Marks)
        → marks'.left ≡ set marks.left (r - 1) l → marks'.right ≡ set marks.right (l - 1) r → marks'.overs ≡ set marks.overs (l - 1) d → EndsJoined marks.first marks.last l r marks'.first marks'.last
        → Marked (js ++ (join l r d ∷ [])) marks'
    marks_join marks' a b o e =
        record {
          neighbours = record {
            lefts = ap length a ∙ length-set marks.left (r - 1) l ∙ N.lefts;
            rights = ap length b ∙ length-set marks.right (l - 1) r ∙ N.rights;
            overlaps = ap length o ∙ length-set marks.overs (l - 1) d ∙ N.overlaps;
            left_is =
                rw a (tells_set marks.left (λ i. left_of i js) N.left_is N.lefts (λ i. left_of i more) r l hr
                (L.left_joined js M.linked l r d hl.0 hr.0 right_none left_none)
                (L.left_other js M.linked l r d hl.0 hr.0 right_none left_none));
            right_is =
                rw b (tells_set marks.right (λ i. right_of i js) N.right_is N.rights (λ i. right_of i more) l r hl right_now right_others);
            overlap-is =
                rw o (tells_set marks.overs (λ i. overlap_after i js) N.overlap-is N.overlaps (λ i. overlap_after i more) l d hl
                (over_joined js M.linked.real l r d right_none) (λ i n. over_other i js (join l r d) n));
          };
          firsts = e.firsts;
          lasts = e.lasts;
          linked = L.linked_more js M.linked l r d hl.0 hr.0 right_none left_none;
          threads = rw (e.last_is, e.first-is)
              (threads_join js (chain_ends marks.last) (chain_ends marks.first) l r d M.linked M.threads hl.0 hr.0 right_none left_none
              (λ q. cycle (sym q ∙ ends-mark marks.last r hr.0 (omega (arith, M.lasts)))));
          small = small_new;
          spare =
              let z = zeros-set marks.left (r - 1) l (omega (arith, N.lefts)) zr hl.0 in
              rw a (omega (arith, z, M.spare, length-append js (join l r d ∷ [])));
        }
