-- The sides of the outcome, written: those of the first tray are copied, and the loop goes on after them.
--   Putting cs ds N d i d' == after those of the first tray, cs, the sides of the first i of the slips N of the second, whose sides are ds, stand in d', where
--                             the list was d when the loop began
--   putting-..             == after one slip more, at the end
--   slip_real              == the next of the slips is one of the second tray
use mathlib.Core.Path.{◌≡◌, refl, ◌∙◌}
use mathlib.Core.List.{List, [], ◌∷◌, ◌++◌, map, map-append, append_assoc}
use Prim.Native.Nat.{ℕ, ◌+◌, ◌-◌, ◌≤◌, ◌<◌}
use native.Mathlib.Numerals.{add-one}
use native.Mathlib.Omega.{arith}
use lib.ListN.{length, get_or, take, drop, set, length-append, length-map}
use lib.Seq.{take_all, take-suc, take-length, length-take-le, drop_at, drop-drop}
use Rattle.words.specs.Lists.{over}
use Rattle.words.proofs.Buffers.{length_over, over-set}
use Rattle.words.proofs.Picks.{entry_at, get_or_in}
use Rattle.words.proofs.Sums.{all_at}
use Rattle.trays.specs.Sides.{side_of}
use Rattle.merge_equals.specs.declared.Fresh.{Fresh}
use Rattle.merge_trays.specs.Steps.Merging.{chosen, sides_merged, CanWriteSides}

pub record Putting (cs ds N d : List ℕ) (i : ℕ) (d' : List ℕ) : Type 0 where
  pub upto : i ≤ length N
  pub are : d' ≡ over (cs ++ map (side_of ds) (take i N)) d

-- what is written over a list may be written over it again, and more after it
over-again : (xs ys d : List ℕ) → over (xs ++ ys) (over xs d) ≡ over (xs ++ ys) d
over-again xs ys d =
    rw (length-append, ← drop-drop (length ys) (length xs) (over xs d), drop_at xs (drop (length xs) d) (length xs) refl, drop-drop (length ys) (length xs) d)

module _ (cs ds : List ℕ) (new : Fresh) (d : List ℕ) (C : CanWriteSides cs ds new (length d)) where
  abbrev N : List ℕ
  N = chosen new

  many : length N ≡ new.count
  many = length-take-le new.count new.slips (omega (arith, C.size, C.few))

  first-room : length cs ≤ length d
  first-room = omega (arith, C.room)

  -- the first tray's are copied
  module _ (d₁ : List ℕ) (here : ℕ) (q : here ≡ length cs) (p : d₁ ≡ take (length cs) cs ++ drop (length cs) d) where
    copied : d₁ ≡ over cs d
    copied = p ∙ rw take-length

    long : length d₁ ≡ length d
    long = rw copied (length_over cs d first-room)

    module _ (i : ℕ) (d' : List ℕ) (P : Putting cs ds N d₁ i d') where
      size : length (cs ++ map (side_of ds) (take i N)) ≡ here + i
      size = rw (length-append, length-map) (omega (arith, length-take-le i N P.upto))

      pub putting_all : length N ≤ i → d' ≡ over (sides_merged cs ds new) d
      putting_all h =
          let all : take i N ≡ N = take_all i N h in
          P.are ∙ rw (all, copied) (over-again cs (map (side_of ds) N) d)

      module _ (h : i < length N) (k : ℕ) (e : k ≡ get_or N i 0) where
        slip_real : (1 ≤ k) × (k ≤ length ds)
        slip_real = rw e (all_at (λ j. (1 ≤ j) × (j ≤ length ds)) N (get_or N i 0) C.real (get_or_in 0 N i h))

        pub putting_more : (i' : ℕ) → i' ≡ i + 1 → Putting cs ds N d₁ i' (set d' (here + i) (get_or ds (k - 1) 0))
        putting_more i' u =
            let more : map (side_of ds) (take i' N) ≡ map (side_of ds) (take i N) ++ (side_of ds k ∷ []) =
            rw (u, add-one i, take-suc N i 0 h, map-append, ← e) in
            record {
              upto = omega arith;
              are =
                  rw (entry_at ds k slip_real.0, P.are, more, ← append_assoc)
                  (over-set 0 (cs ++ map (side_of ds) (take i N)) d₁ (here + i) (side_of ds k) size (omega (arith, long, C.room, many)));
            }
