-- The loop that writes chosen slips of a tray, one after another.
--   Writing s es M here a b a' b' at i == the slips of the first i numbers of M are written over a and b, and have `at` letters
--   writing_more == after one slip more
--   turn-..  == what a turn asks of the next slip, and of the room for it
use mathlib.Core.Path.{◌≡◌, sym, ◌∙◌, ap}
use mathlib.Core.List.{List, [], ◌∷◌, ◌++◌, map-append}
use Prim.Native.Nat.{ℕ, suc, ◌+◌, ◌-◌, ◌≤◌, ◌<◌}
use borrow.Rule.Slice.PartMut.{put_mid}
use native.Mathlib.Numerals.{add-one}
use native.Mathlib.Omega.{arith}
use lib.ListN.{length, get_or, take, drop, set, length-append, length-drop, length-map, take-append-drop}
use lib.Seq.{take-suc, take-length, drop-cons, length-take-le}
use Rattle.words.specs.Lists.{over}
use Rattle.words.proofs.Buffers.{length_over, over-set, rest_is, over_mid}
use Rattle.trays.specs.Limits.{max_letters}
use Rattle.trays.specs.Slips.{slip, slips_of, only}
use Rattle.trays.specs.Written.{letters_of, ends_from}
use Rattle.trays.proofs.WrittenSlips.{length-ends, letters_append, letters_snoc, ends_snoc}
use Rattle.tray_cut.specs.Choosing.{CanWrite}

pub record Writing (s es M : List ℕ) (here : ℕ) (a b a' b' : List ℕ) (at i : ℕ) : Type 0 where
  pub upto : i ≤ length M
  pub at_is : length (letters_of (only (slips_of s es) (take i M))) ≡ at
  pub letters_are : a' ≡ over (letters_of (only (slips_of s es) (take i M))) a
  pub ends_are : b' ≡ over (ends_from here (only (slips_of s es) (take i M))) b

module _ (s es M : List ℕ) (here : ℕ) (a b : List ℕ) (C : CanWrite s es M here (length a) (length b)) where
  abbrev xs : List (List ℕ)
  xs = slips_of s es

  abbrev done : ℕ → List (List ℕ)
  done i = only xs (take i M)

  -- what is written is a first part of all
  part_of : (i : ℕ) → length (letters_of (done i)) + length (letters_of (only xs (drop i M))) ≡ length (letters_of (only xs M))
  part_of i =
      sym (length-append (letters_of (done i)) (letters_of (only xs (drop i M))))
      ∙ ap length (sym (letters_append (done i) (only xs (drop i M))) ∙ ap letters_of (sym (map-append (slip xs) (take i M) (drop i M)))
      ∙ ap (λ z. letters_of (only xs z)) (take-append-drop i M))

  module _ (a' b' : List ℕ) (at i : ℕ) (W : Writing s es M here a b a' b' at i) where
    fewer : at + length (letters_of (only xs (drop i M))) ≡ length (letters_of (only xs M))
    fewer = rw W.at_is at (part_of i)

    ends_count : length (ends_from here (done i)) ≡ i
    ends_count = length-ends here (done i) ∙ rw length-map (length-take-le i M W.upto)

    pub letters_long : length a' ≡ length a
    letters_long = rw W.letters_are (length_over (letters_of (done i)) a (omega (arith, C.room, W.at_is, fewer)))

    pub ends_long : length b' ≡ length b
    ends_long = rw W.ends_are (length_over (ends_from here (done i)) b (omega (arith, ends_count, W.upto, C.few)))

    module _ (h : i < length M) (k : ℕ) (e : k ≡ get_or M i 0) where
      next : done (suc i) ≡ done i ++ (slip xs k ∷ [])
      next = ap (only xs) (take-suc M i 0 h) ∙ map-append (slip xs) (take i M) (get_or M i 0 ∷ []) ∙ rw e

      left : length (slip xs k) + length (letters_of (only xs (drop (suc i) M))) ≡ length (letters_of (only xs (drop i M)))
      left = rw (drop-cons M i 0 h, e) (sym (length-append (slip xs (get_or M i 0)) (letters_of (only xs (drop (suc i) M)))))

      module _ (part : List ℕ) (p : part ≡ slip xs k) where
        pub turn_room : length part ≤ length (take (length a' - at) (drop at a'))
        turn_room = rw (p, rest_is a' at, length-drop) (omega (arith, letters_long, C.room, fewer, left))

        pub turn_small : here + (at + length part) ≤ max_letters
        turn_small = rw p (omega (arith, C.small, fewer, left))

        pub writing_more :
            (q : List ℕ) (n at' end i' : ℕ) → q ≡ take (length part) part ++ drop (length part) (take (length a' - at) (drop at a')) → n ≡ length part
            → at' ≡ at + n → end ≡ here + at' → i' ≡ i + 1
            → Writing s es M here a b (put_mid at (length a' - at) a' q) (set b' i end) at' i'
        writing_more q n at' end i' f g u v w =
            let up : i' ≡ suc i = w ∙ add-one i in
            record {
              upto = omega (arith, h);
              at_is = rw (up, next, letters_snoc, length-append, W.at_is, u, g, p);
              letters_are =
                  rw (up, next, letters_snoc)
                  (over_mid (letters_of (done i)) (slip xs k) a a' q at W.at_is W.letters_are (f ∙ rw (take-length, p)));
              ends_are =
                  let x : end ≡ here + length (letters_of (done i)) + length (slip xs k) = rw (W.at_is, ← p) (omega arith) in
                  rw (up, next, ends_snoc, ← x, W.ends_are)
                  (over-set 0 (ends_from here (done i)) b i end ends_count (omega (arith, h, C.few)));
            }
