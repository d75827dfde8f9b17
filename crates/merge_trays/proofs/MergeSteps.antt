-- From the new slips to the outcome.
--   slips_sum, letters_sum  == how many slips and letters the outcome has
--   copied_letters, copied_ends == the first tray is copied
--   merged-written          == with the new slips, written into the rest of both buffers, it is the letters and ends of the outcome
--   few_and_small           == how large the counts are that the code adds up; outcome_size == their sums are the counts of the outcome
--   can_write_sides == what writing the sides asks, where no row speaks
--   sizes_refused, sizes_within == the ways through merge_sided
--   merge_lent, merge_inputs, merge_sizes == the ways through merge_trays
use mathlib.Core.Path.{◌≡◌, refl, sym, ◌∙◌, ap}
use mathlib.Core.List.{List, ◌++◌}
use Rattle.std.specs.Prelude.{Ok}
use Prim.Native.Nat.{ℕ, ◌+◌, ◌-◌, ◌*◌, ◌≤◌}
use borrow.Rule.Slice.PartMut.{put_mid}
use native.Mathlib.Omega.{arith}
use lib.ListN.{length, take, drop, length-append, length-map}
use lib.Seq.{take-length, length-take-le}
use Rattle.words.specs.Lists.{over}
use Rattle.words.proofs.Buffers.{over_mid}
use Rattle.tables.specs.Tables.{table}
use Rattle.trays.specs.declared.Refusal.{Refusal}
use Rattle.trays.specs.declared.Written.{Written}
use Rattle.trays.specs.Limits.{max_slips, max_slip, max_letters}
use Rattle.trays.specs.Slips.{slips_of, only}
use Rattle.trays.specs.declared.fault.Fault.{Fault}
use Rattle.trays.specs.Told.{told}
use Rattle.trays.specs.Faults.{accepted, or_else, first_row, tray_fault}
use Rattle.trays.specs.Written.{letters_of, ends_from, ends_of, size_rows}
use Rattle.trays.proofs.Accepted.{accepted_tells, slips_count}
use Rattle.trays.proofs.Told.{told_speaks, told-first, told_next}
use Rattle.trays.proofs.WrittenSlips.{letters_append, ends_append, tray_refused}
use Rattle.trays.proofs.WrittenTrays.{written_slips}
use Rattle.merge_rule.specs.Merging.{letters_among, sides_among, merged_sides, merge_fault, MergeSays}
use Rattle.merge_equals.specs.declared.Fresh.{Fresh}
use Rattle.merge_equals.specs.declared.sided.Sided.{Sided}
use Rattle.merge_equals.specs.Equals.{NewSlips}
use Rattle.tray_cut.specs.Choosing.{SlipsWritten}
use Rattle.merge_trays.specs.Steps.Merging.{lent_fault, both_fault, size_fault, Room, AreSided, SizesSay, chosen, slips_merged, sides_merged}
use Rattle.merge_trays.specs.Steps.Merging.{CanMerge, LettersWritten, CanWriteSides}
use Rattle.merge_trays.proofs.InputRows.{fault_is, size_silent}
use Rattle.merge_trays.proofs.Outcome.{letters-merged, sides_merged_lem}

-- a list copied whole
table_all : (w : List ℕ) → table w 0 (length w) ≡ w
unfolding table
table_all w = take-length w

-- the slips written: those of the first tray, and after them the new ones
module _ (s es t fs : List ℕ) (new : Fresh) where
  abbrev m : List (List ℕ)
  m = slips_merged s es t fs new

  abbrev M : List ℕ
  M = chosen new

  abbrev ys : List (List ℕ)
  ys = only (slips_of t fs) M

  module _ (acc : (tray_fault s es).number ≡ 0) where
    first-letters : letters_of (slips_of s es) ≡ s
    first-letters = (written_slips s es acc).0

    first_ends : ends_of (slips_of s es) ≡ es
    first_ends = (written_slips s es acc).1

    letters_are : letters_of m ≡ s ++ letters_of ys
    letters_are = rw (letters_append, first-letters)

    ends_are : ends_of m ≡ es ++ ends_from (length s) ys
    ends_are =
        let here : 0 + length (letters_of (slips_of s es)) ≡ length s = rw first-letters (omega arith) in
        rw (ends_append, first_ends, here)

    pub letters_sum : new.letters ≡ length (letters_of ys) → length (letters_of m) ≡ length s + new.letters
    letters_sum c = rw (letters_are, length-append, c)

  module _ (listed : new.count ≤ length new.slips) where
    numbers_count : length M ≡ new.count
    numbers_count = length-take-le new.count new.slips listed

    pub slips_sum : length m ≡ length es + new.count
    slips_sum = rw (length-append, slips_count, length-map, numbers_count)

  -- the first tray is copied into the front of both buffers
  module _ (one : (tray_fault s es).number ≡ 0) (a b : List ℕ) (C : CanMerge s es t fs new (length a) (length b)) where
    module _ (a₁ b₁ : List ℕ) (here : ℕ) (p : a₁ ≡ take (length s) s ++ drop (length s) a) (q : here ≡ length s)
        (r : b₁ ≡ over (table es 0 (length es)) b) where
      copied_letters : a₁ ≡ over s a
      copied_letters = p ∙ rw take-length

      copied_ends : b₁ ≡ over es b
      copied_ends = r ∙ ap (λ l. over l b) (table_all es)

      -- the new slips stand in the rest of both
      module _ (a₂ b₂ : List ℕ) (g : ℕ)
          (W : SlipsWritten t fs M here (take (length a₁ - here) (drop here a₁)) a₂ (take (length b₁ - length es) (drop (length es) b₁)) b₂ g) where
        all_letters : put_mid here (length a₁ - here) a₁ a₂ ≡ over (letters_of m) a
        all_letters = rw (letters_are one) (over_mid s (letters_of ys) a a₁ a₂ here (sym q) copied_letters W.letters_are)

        all_ends : put_mid (length es) (length b₁ - length es) b₁ b₂ ≡ over (ends_of m) b
        all_ends =
            rw (ends_are one) (over_mid es (ends_from (length s) ys) b b₁ b₂ (length es) refl copied_ends (W.ends_are ∙ rw q))

        pub merged-written : (n k : ℕ) → n ≡ here + new.letters → k ≡ length es + new.count
            → LettersWritten s es t fs new a (put_mid here (length a₁ - here) a₁ a₂) b (put_mid (length es) (length b₁ - length es) b₁ b₂)
            (record { number = 0; detail = 0; letters = n; slips = k })
        merged-written n k u v =
            let letters : n ≡ length (letters_of m) = omega (arith, letters_sum one C.counted) in
            let slips : k ≡ length m = omega (arith, slips_sum C.listed) in
            record { answer-is = rw (letters, slips); letters_are = all_letters; ends_are = all_ends }

-- the new slips of two accepted trays, with a side for each slip
module _ (s es cs t fs ds : List ℕ) (one : (tray_fault s es).number ≡ 0) (many : length cs ≡ length es) (two : (tray_fault t fs).number ≡ 0)
    (many' : length ds ≡ length fs) (new : Fresh) (N : NewSlips s es cs t fs ds new) where
  abbrev outcome : List (List ℕ)
  outcome = merged_sides s es cs t fs ds

  few_new : new.count ≤ max_slips
  few_new = omega (arith, N.few, (accepted_tells t fs two).few)

  listed : new.count ≤ length new.slips
  listed = omega (arith, few_new, N.size)

  pub few_and_small : (length es ≤ max_slips) × (new.count ≤ max_slips) × (length s ≤ max_letters) × (new.letters ≤ max_slip * max_slips)
  few_and_small =
      let first = accepted_tells s es one in
      (first.few, few_new, first.small, omega (arith, N.bound, (accepted_tells t fs two).few))

  outcome_size : size_fault (length s + new.letters) (length es + new.count) ≡ first_row (size_rows (letters_among outcome))
  outcome_size =
      rw (letters-merged s es cs t fs ds new N, letters_sum s es t fs new one N.letters_are, slips_sum s es t fs new listed)

  module _ (a b d : List ℕ) where
    pub sizes_refused : (f : Fault) → told f ≡ size_fault (length s + new.letters) (length es + new.count)
        → SizesSay s es cs t fs ds a a b b d d (record { number = (told f).number; detail = (told f).detail; letters = 0; slips = 0 })
    sizes_refused f e =
        let loud : (told f).number ≡ 0 → ⊥ = λ z. absurd (omega (arith, told_speaks f)) in
        rw (← outcome_size, ← e) (tray_refused (told f) (letters_among outcome) (sides_among outcome) loud a b d)

    -- enough is lent, and the outcome is within the limits
    module _ (R : Room (length a) (length b) (length d)) (e : accepted ≡ size_fault (length s + new.letters) (length es + new.count)) where
      within : (length s + new.letters ≤ max_letters) × (length es + new.count ≤ max_slips)
      within = size_silent (length s + new.letters) (length es + new.count) e

      pub can_write_sides : CanWriteSides cs ds new (length d)
      can_write_sides = record {
        size = N.size;
        few = few_new;
        real = rw many' N.real;
        room = omega (arith, within.1, many, R.sides);
      }

      pub sizes_within : (a' b' d' : List ℕ) (r : Written) → LettersWritten s es t fs new a a' b b' r → d' ≡ over (sides_merged cs ds new) d
          → SizesSay s es cs t fs ds a a' b b' d d' r
      sizes_within a' b' d' r L p =
          let ms = letters-merged s es cs t fs ds new N in
          let bs = sides_merged_lem s es cs t fs ds new N many many' in
          rw (← outcome_size, ← e, ms, bs) (record { answer-is = L.answer-is; letters_are = L.letters_are; ends_are = L.ends_are; sides_are = p })

-- the whole call
module _ (s es cs t fs ds a b d : List ℕ) where
  abbrev fault : Refusal
  fault = merge_fault (length a) (length b) (length d) s es cs t fs ds

  abbrev all : List (List ℕ)
  all = merged_sides s es cs t fs ds

  refused_by_lem : (f : Fault) → told f ≡ fault
      → MergeSays s es cs t fs ds a a b b d d (record { number = (told f).number; detail = (told f).detail; letters = 0; slips = 0 })
  refused_by_lem f e =
      let loud : (told f).number ≡ 0 → ⊥ = λ z. absurd (omega (arith, told_speaks f)) in
      rw (← e) (tray_refused (told f) (letters_among all) (sides_among all) loud a b d)

  pub merge_lent : (f : Fault) → told f ≡ lent_fault (length a) (length b) (length d)
      → MergeSays s es cs t fs ds a a b b d d (record { number = (told f).number; detail = (told f).detail; letters = 0; slips = 0 })
  merge_lent f e =
      refused_by_lem f (told-first f (lent_fault (length a) (length b) (length d)) _ e ∙ sym (fault_is s es cs t fs ds (length a) (length b) (length d)))

  module _ (enough : accepted ≡ lent_fault (length a) (length b) (length d)) where
    fault_left : or_else (both_fault s es cs t fs ds) (first_row (size_rows (letters_among all))) ≡ fault
    fault_left = told_next (lent_fault (length a) (length b) (length d)) _ enough ∙ sym (fault_is s es cs t fs ds (length a) (length b) (length d))

    pub merge_inputs : (f : Fault) → told f ≡ both_fault s es cs t fs ds
        → MergeSays s es cs t fs ds a a b b d d (record { number = (told f).number; detail = (told f).detail; letters = 0; slips = 0 })
    merge_inputs f e = refused_by_lem f (told-first f (both_fault s es cs t fs ds) _ e ∙ fault_left)

    pub merge_sizes : accepted ≡ both_fault s es cs t fs ds → (x y : Sided) → AreSided s es cs t fs ds (Ok (x, y)) → (a' b' d' : List ℕ) (r : Written)
        → SizesSay x.tray.letters.now x.tray.ends.now x.sides.now y.tray.letters.now y.tray.ends.now y.sides.now a a' b b' d d' r
        → MergeSays s es cs t fs ds a a' b b' d d' r
    merge_sizes e x y (p, q) a' b' d' r h =
        let same : SizesSay s es cs t fs ds a a' b b' d d' r = rw (p.0, p.1, p.2, q.0, q.1, q.2) at h in
        rw (← fault_left, ← told_next (both_fault s es cs t fs ds) (first_row (size_rows (letters_among all))) e) same
