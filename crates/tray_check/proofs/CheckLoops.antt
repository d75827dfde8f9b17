-- The loops of the tray check, turn by turn: what each keeps is a row's definition at what is left of the list.
--   letter-..   == the three ways through the test of a byte
--   bad-..      == the first byte outside the signs
--   ends-..     == rows 2 and 3 in one pass over the ends
--   holding-..  == the slip that holds a place
--   last-..     == the last end
use mathlib.Core.Path.{◌≡◌, refl, sym, ◌∙◌, ap}
use mathlib.Core.Bool.{Bool, true, false, not, cond}
use mathlib.Core.List.{List, [], ◌∷◌}
use Prim.Native.Nat.{ℕ, zero, suc, ◌+◌, ◌-◌, ◌≤◌, ◌<◌}
use borrow.Author.Tests.{lt-ltb, le-ltb, le-leb, lt-leb, eq-eqb, ne_eqb}
use native.Mathlib.Numerals.{add-one, sub-one}
use native.Mathlib.Omega.{arith}
use lib.Dec.{leb, ltb}
use lib.ListN.{length, get_or, drop, drop_of_length-le}
use lib.Seq.{drop-cons}
use Rattle.std.proofs.Common.{Option, None, Some, slice_get}
use Rattle.std.proofs.lemmas.Option.{get_or_from_slice_get}
use Rattle.std.specs.Option.{option_or}
use Rattle.std.specs.Bool.{then_some}
use Rattle.std.specs.List.{position_or_len}
use Rattle.words.specs.Lists.{last_or}
use Rattle.words.proofs.Tests.{by_test}
use Rattle.trays.specs.declared.Refusal.{Refusal}
use Rattle.trays.specs.Told.{place_of}
use Rattle.trays.proofs.Found.{first_found}
use Rattle.trays.specs.Limits.{max_slip}
use Rattle.trays.specs.Slips.{stop, is_letter}
use Rattle.trays.specs.Faults.{refusal, not_above, too_long, bad_place}
use Rattle.tray_check.specs.Steps.Checks.{first_of, note_long, ends_fault, slip_holding}

not-true : (b : Bool) → not b ≡ true → b ≡ false
not-true true t = sym t
not-true false t = refl

not-false : (b : Bool) → not b ≡ false → b ≡ true
not-false true t = refl
not-false false t = sym t

pub bad_found : (r : Option ℕ) (s : List ℕ) →
    r ≡ cond (ltb (position_or_len (λ b. not (is_letter b)) s) (length s)) (Some (position_or_len (λ b. not (is_letter b)) s)) None → place_of r ≡ bad_place 1 s
bad_found r s e =
    first_found (λ b. not (is_letter b)) bad_place (λ i. refl)
    (λ i b bs t. rw (not-true (is_letter b) t, bad_place)) (λ i b bs t. rw (not-false (is_letter b) t, bad_place)) r s e

pub holding_found : (p : ℕ) (r : Option ℕ) (es : List ℕ) →
    r ≡ cond (ltb (position_or_len (leb p) es) (length es)) (Some (position_or_len (leb p) es)) None → place_of r ≡ slip_holding 1 p es
holding_found p r es e =
    first_found (leb p) (λ i. slip_holding i p) (λ i. refl) (λ i x xs t. rw (t, slip_holding)) (λ i x xs t. rw (t, slip_holding)) r es e

first_none : (a : ℕ) → a ≡ 0 → (b : ℕ) → first_of a b ≡ b
first_none zero e b = refl
first_none (suc a) e b = absurd (omega arith)

first_some : (a : ℕ) → 1 ≤ a → (b : ℕ) → first_of a b ≡ a
first_some zero h b = absurd (omega arith)
first_some (suc a) h b = refl

-- the first slip that is too long, as an Option
abbrev pub number : Option ℕ → ℕ
number None = 0
number (Some d) = d

abbrev pub Noted : Option ℕ → Type 0
Noted None = Unit {0}
Noted (Some d) = 1 ≤ d

pub noted : (long : Option ℕ) (b : Bool) (k : ℕ) → Noted long → number (option_or long (then_some b k)) ≡ first_of (number long) (cond b k 0)
noted None true k g = refl
noted None false k g = refl
noted (Some d) b k g = sym (first_some d g _)

pub noted_more : (long : Option ℕ) (b : Bool) (k : ℕ) → Noted long → 1 ≤ k → Noted (option_or long (then_some b k))
noted_more None true k g h = h
noted_more None false k g h = tt
noted_more (Some d) b k g h = g

-- one end more: e stands at i, and the pass is at slip k, behind the end `here`
module _ (es : List ℕ) (i k here e : ℕ) (h : i < length es) (v : e ≡ get_or es i 0) (n : not_above 1 0 es ≡ not_above k here (drop i es)) where
  above_here : leb e here ≡ true → not_above 1 0 es ≡ k
  above_here t = n ∙ rw (drop-cons es i 0, rw v at t, not_above)

  pub ends_fall : (r : Refusal) → r ≡ refusal 2 k → k ≡ i + 1 → e ≤ here → r ≡ ends_fault es
  ends_fall r q p t = let a : not_above 1 0 es ≡ k = above_here (le-leb e here t) in q ∙ rw (a, le-leb 1 k (omega arith))

  pub ends_above : here < e → not_above 1 0 es ≡ not_above (k + 1) e (drop (i + 1) es)
  ends_above t =
      let g : not_above k here (drop i es) ≡ not_above (suc k) (get_or es i 0) (drop (suc i) es) = rw (drop-cons es i 0, rw v at (lt-leb e here t), not_above) in
      rw (add-one k, add-one i, v) (n ∙ g)

first_assoc : (a b c : ℕ) → first_of a (first_of b c) ≡ first_of (first_of a b) c
first_assoc zero b c = refl
first_assoc (suc a) b c = refl

pub ends_long : (es : List ℕ) (i k here e long long' : ℕ) → i < length es → k ≡ i + 1 → e ≡ get_or es i 0 → long' ≡ note_long long k here e →
    too_long max_slip 1 0 es ≡ first_of long (too_long max_slip k here (drop i es)) →
    too_long max_slip 1 0 es ≡ first_of long' (too_long max_slip (k + 1) e (drop (i + 1) es))
ends_long es i k here e long long' h p v w l =
    let g : too_long max_slip k here (drop i es) ≡ first_of (cond (ltb (here + max_slip) e) k 0) (too_long max_slip (suc k) e (drop (suc i) es)) =
    rw (drop-cons es i 0, ← v) (by_test (ltb (here + max_slip) e) (λ t. rw (t, too_long) (sym (first_some k (omega arith) _))) (λ t. rw (t, too_long))) in
    rw (add-one k, add-one i, w, ← first_assoc, ← g) l

module _ (es : List ℕ) (i k here long : ℕ) (h : length es ≤ i) (n : not_above 1 0 es ≡ not_above k here (drop i es))
    (l : too_long max_slip 1 0 es ≡ first_of long (too_long max_slip k here (drop i es))) where
  no_fall : not_above 1 0 es ≡ 0
  no_fall = n ∙ rw (drop_of_length-le es h)

  first_long : too_long max_slip 1 0 es ≡ long
  first_long = l ∙ rw (drop_of_length-le es h) (elim long as (λ k. first_of k 0 ≡ k) [ zero ↦ refl | suc m ↦ refl ])

  pub ends_too_long : (r : Refusal) → r ≡ refusal 3 long → (long ≡ 0 → ⊥) → r ≡ ends_fault es
  ends_too_long r q z = q ∙ rw (no_fall, first_long, le-leb 1 long (omega arith))

  pub ends_good : (r : Refusal) → r ≡ refusal 0 0 → long ≡ 0 → r ≡ ends_fault es
  ends_good r q z = q ∙ rw (no_fall, first_long, z)

last_at : (d : ℕ) (es : List ℕ) → last_or d es ≡ get_or (d ∷ es) (length es) 0
last_at d [] = refl
last_at d (e ∷ es) = last_at e es

pub last_told : (es : List ℕ) (x e : ℕ) → slice_get es (length es - 1) ≡ Some x → e ≡ x → e ≡ last_or 0 es
last_told [] x e g h = absurd (none (length {A = ℕ} [] - 1) g)
  where
    none : (k : ℕ) → slice_get [] k ≡ Some x → ⊥
    none k q = cc
last_told (y ∷ es) x e g h = h ∙ sym (get_or_from_slice_get (y ∷ es) (length (y ∷ es) - 1) x 0 g) ∙ rw sub-one (sym (last_at y es))
