-- The pass that copies letters, ends and sides, turn by turn.
--   Passed s a b d a' b' d' at count slips == the first `slips` lines of the file s, up to `at`, with `count` letters, are copied over a, b and d
--   Turn s a' b' d' at count slips next    == what a turn knows of the line from `at` to `next` and of the room for it
-- Each turn takes one line more into the part that is copied. A good line has 10 bytes beside its letters, so a file of 16,384 bytes has
-- at most 1,638 lines, and every end fits 16 bits.
use mathlib.Core.Path.{◌≡◌, refl, sym, ◌∙◌, ap}
use mathlib.Core.List.{List, [], ◌∷◌, ◌++◌, map, map-append}
use Prim.Native.Nat.{ℕ, zero, suc, ◌+◌, ◌-◌, ◌*◌, ◌≤◌, ◌<◌}
use borrow.Rule.Slice.PartMut.{put_mid}
use native.Mathlib.Numerals.{add-one}
use native.Mathlib.Omega.{arith}
use lib.ListN.{length, get_or, take, drop, set, length-append, length-drop, length-map, take-append-drop, drop_of_length-le, get_or-append}
use lib.Seq.{take_all, length-take-le, drop-drop, get_or-drop, take-append-le, drop-append-le}
use Rattle.words.specs.Lists.{over}
use Rattle.words.proofs.Buffers.{length_over, over-set, over_mid}
use Rattle.trays.specs.Limits.{max_file, ends_need}
use Rattle.trays.specs.Faults.{accepted}
use Rattle.trays.specs.Written.{letters_of, ends_of}
use Rattle.trays.proofs.WrittenSlips.{length-ends, letters_snoc, ends_snoc}
use Rattle.fold_rule.specs.Folding.{fold}
use Rattle.file_rule.specs.Lines.{lines_of, first_line, side_field, letters}
use Rattle.file_rule.specs.Faults.{line_fault, lines_fault}
use Rattle.file_read.specs.Steps.Copying.{Lent, Copied}
use Rattle.file_rule.proofs.FirstLines.{lines_at, first-take, first-length}
use Rattle.file_rule.proofs.LineFaults.{letters-length, or_accepted, long_enough}

-- one member more
next_drop : {A : Type 0} (n : ℕ) (xs : List A) {x : A} {rest : List A} → drop n xs ≡ x ∷ rest → drop (suc n) xs ≡ rest
next_drop n xs e = rw (← add-one n, ← drop-drop 1 n xs, e)

next_take : {A : Type 0} (n : ℕ) (xs : List A) {x : A} {rest : List A} → drop n xs ≡ x ∷ rest → take (suc n) xs ≡ take n xs ++ (x ∷ [])
next_take zero xs e = rw e
next_take (suc n) [] e = cc
next_take (suc n) (y ∷ xs) e = ap (λ l. y ∷ l) (next_take n xs e)

-- the slips of the first n lines
abbrev passed : ℕ → List ℕ → List (List ℕ)
passed n s = map letters (take n (lines_of s))

-- the sides of the first n lines
abbrev sides : ℕ → List ℕ → List ℕ
sides n s = map side_field (take n (lines_of s))

-- the letters of a line, out of the file that it begins; and its side
line-letters : (xs l rest : List ℕ) → xs ≡ l ++ rest → 10 ≤ length l → take (length l - 10) (drop 9 xs) ≡ take (length l - 10) (drop 9 l)
line-letters xs l rest e h =
    rw (e, drop-append-le 9 l rest (omega arith), take-append-le (length l - 10) (drop 9 l) rest (rw length-drop (omega arith)))

line_side : (xs l rest : List ℕ) → xs ≡ l ++ rest → 10 ≤ length l → get_or xs 8 0 ≡ side_field l
line_side xs l rest e h = rw e (get_or-append l rest 0 8 (omega arith))

pub record Passed (s a b d a' b' d' : List ℕ) (at count slips : ℕ) : Type 0 where
  pub left : lines_of (drop at s) ≡ drop slips (lines_of s)
  pub few : slips ≤ length (lines_of s)
  pub good : lines_fault (suc slips) (drop slips (lines_of s)) ≡ accepted
  pub sum : at ≡ 10 * slips + count
  pub within : at ≤ length s
  pub counted : count ≡ length (letters_of (passed slips s))
  pub letters_are : a' ≡ over (letters_of (passed slips s)) a
  pub ends_are : b' ≡ over (ends_of (passed slips s)) b
  pub sides_are : d' ≡ over (sides slips s) d

pub record Turn (s a' b' d' : List ℕ) (at count slips next : ℕ) : Type 0 where
  pub next_is : next ≡ at + length (first_line (drop at s))
  pub long : 10 ≤ length (first_line (drop at s))
  pub inside : at + length (first_line (drop at s)) ≤ length s
  pub small : length s ≤ max_file
  pub before : 10 * slips + count ≡ at
  pub room : max_file ≤ length a'
  pub slots : ends_need ≤ length b'
  pub marks : ends_need ≤ length d'

pub passed_none : (s a b d : List ℕ) → Lent s a b d → Passed s a b d a b d 0 0 0
passed_none s a b d t = record {
  left = refl;
  few = omega arith;
  good = t.good;
  sum = refl;
  within = omega arith;
  counted = refl;
  letters_are = refl;
  ends_are = refl;
  sides_are = refl;
}

module _ (s a b d a' b' d' : List ℕ) (at count slips : ℕ) (t : Lent s a b d) (i : Passed s a b d a' b' d' at count slips) where
  pub letters_long : length a' ≡ length a
  letters_long = rw i.letters_are (length_over (letters_of (passed slips s)) a (omega (arith, t, i)))

  ends_count : length (ends_of (passed slips s)) ≡ slips
  ends_count = length-ends 0 (passed slips s) ∙ rw length-map (length-take-le slips (lines_of s) i.few)

  pub ends_long : length b' ≡ length b
  ends_long = rw i.ends_are (length_over (ends_of (passed slips s)) b (omega (arith, t, i, ends_count)))

  sides_count : length (sides slips s) ≡ slips
  sides_count = rw length-map (length-take-le slips (lines_of s) i.few)

  pub sides_long : length d' ≡ length d
  sides_long = rw i.sides_are (length_over (sides slips s) d (omega (arith, t, i, sides_count)))

  module _ (next : ℕ) (h : at < length s) (e : next ≡ at + length (first_line (drop at s))) where
    abbrev l : List ℕ
    l = first_line (drop at s)

    next_lines : drop slips (lines_of s) ≡ l ∷ lines_of (drop (at + length l) s)
    next_lines = sym i.left ∙ lines_at s at h

    passed_next : passed (suc slips) s ≡ passed slips s ++ (letters l ∷ [])
    passed_next = ap (map letters) (next_take slips (lines_of s) next_lines) ∙ map-append letters (take slips (lines_of s)) (l ∷ [])

    sides_next : sides (suc slips) s ≡ sides slips s ++ (side_field l ∷ [])
    sides_next = ap (map side_field) (next_take slips (lines_of s) next_lines) ∙ map-append side_field (take slips (lines_of s)) (l ∷ [])

    faultless : ((line_fault (suc slips) l).number ≡ 0) × (lines_fault (suc (suc slips)) (lines_of (drop (at + length l) s)) ≡ accepted)
    faultless = or_accepted (line_fault (suc slips) l) _ (rw next_lines at i.good)

    pub turn : Turn s a' b' d' at count slips next
    turn = record {
      next_is = e;
      long = long_enough (suc slips) l faultless.0;
      inside = omega (arith, first-length (drop at s), length-drop at s);
      small = t.small;
      before = sym i.sum;
      room = rw letters_long t.room;
      slots = rw ends_long t.slots;
      marks = rw sides_long t.marks;
    }

    -- how many letters the line has
    abbrev many : ℕ
    many = next - 1 - (at + 9)

    begins : drop at s ≡ l ++ drop (length l) (drop at s)
    begins = sym (rw (first-take (drop at s)) at (take-append-drop (length l) (drop at s)))

    filed_letters : map fold (take many (drop (at + 9) s)) ≡ letters l
    filed_letters =
        let n : many ≡ length l - 10 = omega (arith, turn) in
        rw (n, ← drop-drop 9 at s) (ap (map fold) (line-letters (drop at s) l _ begins turn.long))

    side_here : get_or s (at + 8) 0 ≡ side_field l
    side_here = rw (← get_or-drop at s 8 0) (line_side (drop at s) l _ begins turn.long)

    pub passed_more : (p : List ℕ) → p ≡ over (map fold (take many (drop (at + 9) s))) (take (length a' - count) (drop count a'))
        → Passed s a b d (put_mid count (length a' - count) a' p) (set b' slips (count + many)) (set d' slips (get_or s (at + 8) 0)) next (count + many)
        (slips + 1)
    passed_more p f = record {
      left = rw (e, add-one) (sym (next_drop slips (lines_of s) next_lines));
      few = omega (arith, ap length next_lines, length-drop slips (lines_of s));
      good = rw (add-one, next_drop slips (lines_of s) next_lines) faultless.1;
      sum = omega (arith, turn, i);
      within = omega (arith, turn);
      counted =
          rw (add-one, passed_next, letters_snoc, length-append, letters-length l, ← i.counted)
          (omega (arith, turn));
      letters_are =
          rw (add-one, passed_next, letters_snoc)
          (over_mid (letters_of (passed slips s)) (letters l) a a' p count (sym i.counted) i.letters_are (rw filed_letters at f));
      ends_are =
          let v : count + many ≡ 0 + length (letters_of (passed slips s)) + length (letters l) =
          omega (arith, turn, i.counted, letters-length l) in
          rw (add-one, passed_next, ends_snoc, v, i.ends_are)
          (over-set 0 (ends_of (passed slips s)) b slips _ ends_count (omega (arith, t, i)));
      sides_are =
          rw (add-one, sides_next, side_here, i.sides_are)
          (over-set 0 (sides slips s) d slips (side_field l) sides_count (omega (arith, t, i)));
    }

pub passed_all : (s a b d a' b' d' : List ℕ) (at count slips : ℕ) → Passed s a b d a' b' d' at count slips → length s ≤ at →
    Copied s a a' b b' d d' (record { number = 0; detail = 0; letters = count; slips = slips })
passed_all s a b d a' b' d' at count slips i h =
    let none : drop slips (lines_of s) ≡ [] = sym i.left ∙ rw (drop_of_length-le s h) in
    let n : slips ≡ length (lines_of s) = omega (arith, ap length none, length-drop slips (lines_of s), i.few) in
    let w : take slips (lines_of s) ≡ lines_of s = take_all slips (lines_of s) (omega arith) in
    record {
      answer-is = rw (i.counted, w, n, length-map);
      letters_are = rw w at i.letters_are;
      ends_are = rw w at i.ends_are;
      sides_are = rw w at i.sides_are;
    }
