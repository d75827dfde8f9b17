-- The one pass that tells whether a list is the index.
--   fits-..   == the ways through entry_fits
--   PassTo    == the entries before place i fit, so that the rest of the list decides, and the last of them is the number of a slip
--   pass-..   == so at the start, after one entry more, at an entry that does not fit, and at the end
use mathlib.Core.Path.{◌≡◌, refl, sym, ◌∙◌}
use mathlib.Core.Bool.{Bool, true, false, ◌&&◌}
use mathlib.Core.List.{List}
use Prim.Native.Nat.{ℕ, suc, ◌+◌, ◌-◌, ◌≤◌, ◌<◌}
use borrow.Author.Tests.{eq-eqb, ne_eqb, lt-leb, le-leb}
use native.Mathlib.Numerals.{add-one}
use native.Mathlib.Omega.{arith}
use lib.Dec.{eqb}
use lib.ListN.{length, get_or, drop, drop_of_length-le}
use lib.Seq.{drop-cons}
use Rattle.words.specs.Lists.{entry}
use Rattle.words.specs.Words.{same}
use Rattle.words.proofs.Tests.{by_test}
use Rattle.words.proofs.Picks.{entry_at}
use Rattle.trays.specs.Slips.{slips_of, slip}
use Rattle.trays.specs.Faults.{tray_fault}
use Rattle.trays.proofs.Accepted.{slips_count}
use Rattle.index_rule.specs.Index.{index_of}
use Rattle.index_rule.specs.Steps.Passing.{fits, passes}
use Rattle.index_rule.proofs.OneIndex.{first_fits, fits_tells, index_told}
use Rattle.trie_order.specs.declared.Bound.TheVariants.{Number}
use Rattle.trie_order.specs.Order.{below}
use Rattle.tray_index.specs.Steps.Lists.{AtEntry}

module _ (s es x : List ℕ) (i here : ℕ) (e : here ≡ get_or x i 0) where
  pub fits-zero : here ≡ 0 → false ≡ fits (slips_of s es) (entry x i) (get_or x i 0)
  fits-zero z = rw (sym e ∙ z)

  module _ (n : here ≡ 0 → ⊥) where
    some : 1 ≤ get_or x i 0
    some = rw (← e) (omega arith)

    pub fits_above : length es < here → false ≡ fits (slips_of s es) (entry x i) (get_or x i 0)
    fits_above h =
        let over : length (slips_of s es) < get_or x i 0 = omega (arith, slips_count s es) in
        rw (le-leb 1 (get_or x i 0) some, lt-leb (get_or x i 0) (length (slips_of s es)) over)

    module _ (h : here ≤ length es) where
      within : get_or x i 0 ≤ length (slips_of s es)
      within = omega (arith, slips_count s es)

      pub here_least : 1 ≤ here
      here_least = omega arith

      pub fits-first : i ≡ 0 → true ≡ fits (slips_of s es) (entry x i) (get_or x i 0)
      fits-first z =
          sym (rw (le-leb 1 (get_or x i 0) some, le-leb (get_or x i 0) (length (slips_of s es)) within, z) (first_fits (slips_of s es) (get_or x 0 0) (rw z at some)))

      module _ (z : i ≡ 0 → ⊥) (before : ℕ) (q : before ≡ get_or x (i - 1) 0) where
        before-is : before ≡ entry x i
        before-is = q ∙ entry_at x i (omega arith)

        pub fits-behind : (t : List ℕ) → t ≡ slip (slips_of s es) here → (r : Bool) → r ≡ below (Number here) t (slip (slips_of s es) before) before →
            r ≡ fits (slips_of s es) (entry x i) (get_or x i 0)
        fits-behind t w r p =
            p ∙ rw (w, e, before-is, le-leb 1 (get_or x i 0) some, le-leb (get_or x i 0) (length (slips_of s es)) within)

module _ (s es x : List ℕ) (i before : ℕ) (A : AtEntry s es x i) (z : i ≡ 0 → ⊥) (q : before ≡ get_or x (i - 1) 0) where
  at_entry : before ≡ entry x i
  at_entry = q ∙ entry_at x i (omega arith)

  pub before_least : 1 ≤ before
  before_least = rw at_entry (A.before z).0

  pub before-most : before ≤ length es
  before-most = rw at_entry (A.before z).1

pub record PassTo (s es x : List ℕ) (i : ℕ) : Type 0 where
  pub rest : passes (slips_of s es) 0 x ≡ passes (slips_of s es) (entry x i) (drop i x)
  pub real : (i ≡ 0 → ⊥) → (1 ≤ entry x i) × (entry x i ≤ length es)

pub pass_none : (s es x : List ℕ) → PassTo s es x 0
pass_none s es x = record { rest = refl; real = λ z. absurd (z refl) }

module _ (s es x : List ℕ) (i : ℕ) (P : PassTo s es x i) (h : i < length x) where
  pub pass_asks : (tray_fault s es).number ≡ 0 → AtEntry s es x i
  pass_asks a = record { tray = a; inside = h; before = P.real }

  module _ (r : Bool) (q : r ≡ fits (slips_of s es) (entry x i) (get_or x i 0)) where
    split : passes (slips_of s es) 0 x ≡ fits (slips_of s es) (entry x i) (get_or x i 0) && passes (slips_of s es) (get_or x i 0) (drop (suc i) x)
    split = P.rest ∙ rw (drop-cons x i 0 h)

    pub pass_more : r ≡ true → (k : ℕ) → k ≡ i + 1 → PassTo s es x k
    pass_more y k e =
        let told = fits_tells (slips_of s es) (entry x i) (get_or x i 0) (sym q ∙ y) in
        rw (e, add-one) (record { rest = split ∙ rw (sym q ∙ y); real = λ z. (told.0, omega (arith, told.1, slips_count s es)) })

    pub pass_stop : r ≡ false → false ≡ same x (index_of (slips_of s es))
    pass_stop n =
        let none : passes (slips_of s es) 0 x ≡ false = split ∙ rw (sym q ∙ n) in
        by_test (eqb (length x) (length (slips_of s es))) (λ e. rw (e, none) at (index_told (slips_of s es) x)) (λ e. rw e at (index_told (slips_of s es) x))

pub pass_all : (s es x : List ℕ) (i : ℕ) → PassTo s es x i → length x ≤ i → length x ≡ length es → true ≡ same x (index_of (slips_of s es))
pass_all s es x i P h l =
    let all : passes (slips_of s es) 0 x ≡ true = P.rest ∙ rw (drop_of_length-le x {i = i} h) in
    rw (all, eq-eqb (length x) (length (slips_of s es)) (l ∙ sym (slips_count s es))) at (index_told (slips_of s es) x)

pub other_length : (s es x : List ℕ) → (length x ≡ length es → ⊥) → false ≡ same x (index_of (slips_of s es))
other_length s es x n =
    rw (ne_eqb (length x) (length (slips_of s es)) (λ e. n (e ∙ slips_count s es))) at (index_told (slips_of s es) x)
