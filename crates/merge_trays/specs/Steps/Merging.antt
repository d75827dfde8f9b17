-- What the steps of merging two trays ask and leave: s with ends es and sides cs is the first, t with ends fs and sides ds the second.
--   lent_fault a b d  == 15, where a letters, b ends and d sides are lent
--   one_fault         == what refuses one tray: 1 to 6 and 22; both_fault == the first tray, then the second
--   size_fault n k    == what refuses an outcome of n letters and k slips: 1 and 4
--   Room a b d       == enough is lent for any tray
--   chosen new       == the numbers of the new slips
--   slips_merged      == the slips of the first tray, and after them the new ones; sides_merged == their sides
--   IsSided s es cs r == where r is a tray with its sides, these are just the lent ones; AreSided == so of two trays
--   SizesSay         == what is promised of two accepted trays, where room for any tray is lent: 1 and 4 of the outcome alone can refuse
--   CanMerge         == the new slips are known, and the outcome is within the limits; LettersWritten == its letters and ends are written, with answer r
--   CanWriteSides    == there is a side for each new slip, and room for all
use Rattle.std.specs.Prelude.{◌≡◌, List, [], ◌∷◌, ◌++◌, map, ℕ, ◌+◌, ◌≤◌, ltb, length, take, Result, Ok, Err}
use Rattle.words.specs.Lists.{All, over}
use Rattle.trays.specs.declared.Refusal.{Refusal}
use Rattle.trays.specs.declared.Written.{Written}
use Rattle.trays.specs.Limits.{max_slips, max_letters}
use Rattle.trays.specs.Slips.{slips_of, only}
use Rattle.trays.specs.declared.fault.Fault.{Fault}
use Rattle.trays.specs.Faults.{row, or_else, first_row}
use Rattle.trays.specs.Written.{letters_of, ends_of, wrote, size_rows, TrayWritten}
use Rattle.trays.specs.Sides.{side_of, sided_tray_rows}
use Rattle.merge_rule.specs.Merging.{letters_among, sides_among, merged_sides, lent_row}
use Rattle.merge_equals.specs.declared.sided.Sided.{Sided}
use Rattle.merge_equals.specs.declared.Fresh.{Fresh}

unfoldable pub lent_fault : ℕ → ℕ → ℕ → Refusal
lent_fault a b d = lent_row a b d

unfoldable pub one_fault : List ℕ → List ℕ → List ℕ → Refusal
one_fault s es cs = first_row (sided_tray_rows s es cs)

abbrev pub both_fault : List ℕ → List ℕ → List ℕ → List ℕ → List ℕ → List ℕ → Refusal
both_fault s es cs t fs ds = or_else (one_fault s es cs) (one_fault t fs ds)

abbrev pub size_fault : ℕ → ℕ → Refusal
size_fault n k = first_row (row 1 (ltb max_slips k) 0 ∷ (row 4 (ltb max_letters n) 0 ∷ []))

pub record Room (a b d : ℕ) : Type 0 where
  pub letters : max_letters ≤ a
  pub ends : max_slips ≤ b
  pub sides : max_slips ≤ d

abbrev pub IsSided : List ℕ → List ℕ → List ℕ → Result Sided Fault → Type 0
IsSided s es cs (Ok x) = (x.tray.letters.now ≡ s) × (x.tray.ends.now ≡ es) × (x.sides.now ≡ cs)
IsSided s es cs (Err f) = Unit {0}

abbrev pub AreSided : (s es cs t fs ds : List ℕ) → Result (Sided × Sided) Fault → Type 0
AreSided s es cs t fs ds (Ok p) = IsSided s es cs (Ok p.0) × IsSided t fs ds (Ok p.1)
AreSided s es cs t fs ds (Err f) = Unit {0}

abbrev pub SizesSay : (s es cs t fs ds a a' b b' d d' : List ℕ) → Written → Type 0
SizesSay s es cs t fs ds a a' b b' d d' r =
    let m = merged_sides s es cs t fs ds in
    TrayWritten (first_row (size_rows (letters_among m))) (letters_among m) (sides_among m) a a' b b' d d' r

abbrev pub chosen : Fresh → List ℕ
chosen new = take new.count new.slips

abbrev pub slips_merged : List ℕ → List ℕ → List ℕ → List ℕ → Fresh → List (List ℕ)
slips_merged s es t fs new = slips_of s es ++ only (slips_of t fs) (chosen new)

abbrev pub sides_merged : List ℕ → List ℕ → Fresh → List ℕ
sides_merged cs ds new = cs ++ map (side_of ds) (chosen new)

pub record CanMerge (s es t fs : List ℕ) (new : Fresh) (a b : ℕ) : Type 0 where
  pub listed : new.count ≤ length new.slips
  pub real : All (λ i. (1 ≤ i) × (i ≤ length fs)) (chosen new)
  pub counted : new.letters ≡ length (letters_of (only (slips_of t fs) (chosen new)))
  pub few : length es + new.count ≤ max_slips
  pub small : length s + new.letters ≤ max_letters
  pub room : max_letters ≤ a
  pub slots : max_slips ≤ b

pub record LettersWritten (s es t fs : List ℕ) (new : Fresh) (a a' b b' : List ℕ) (r : Written) : Type 0 where
  pub answer-is : r ≡ wrote (slips_merged s es t fs new)
  pub letters_are : a' ≡ over (letters_of (slips_merged s es t fs new)) a
  pub ends_are : b' ≡ over (ends_of (slips_merged s es t fs new)) b

pub record CanWriteSides (cs ds : List ℕ) (new : Fresh) (d : ℕ) : Type 0 where
  pub size : length new.slips ≡ max_slips
  pub few : new.count ≤ max_slips
  pub real : All (λ i. (1 ≤ i) × (i ≤ length ds)) (chosen new)
  pub room : length cs + new.count ≤ d
