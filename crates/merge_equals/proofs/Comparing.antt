-- Slips compared with one, by side and letters.
--   equal_here, equal_next == the loop over the first n slips: one is found, it is not this one
--   new_first, new_second  == the ways through is_new
use mathlib.Core.Path.{◌≡◌, sym, ◌∙◌}
use mathlib.Core.Bool.{Bool, true, false, not}
use mathlib.Core.List.{List, [], ◌∷◌}
use Prim.Native.Nat.{ℕ, suc, ◌+◌, ◌-◌, ◌≤◌, ◌<◌}
use native.Mathlib.Numerals.{add-one}
use native.Mathlib.Omega.{arith}
use lib.ListN.{length, get_or, take}
use lib.Seq.{take_all, take-suc, get_or-take, length-take-le}
use Rattle.words.specs.Lists.{any}
use Rattle.words.specs.Words.{same}
use Rattle.words.proofs.Members.{in_any, any_append}
use Rattle.words.proofs.Picks.{entry_at, get_or_in}
use Rattle.trays.specs.Slips.{slip, slips_of}
use Rattle.trays.proofs.Accepted.{slips_count}
use Rattle.merge_rule.specs.Merging.{labelled}
use Rattle.merge_rule.proofs.Labelled.{labelled_count, slip-labelled}
use Rattle.merge_equals.specs.Equals.{is_new}

-- one of the first n slips
module _ (s es cs : List ℕ) (side : ℕ) (letters : List ℕ) (n : ℕ) (as_many : length cs ≡ length es) (there : n ≤ length es) where
  abbrev x : List ℕ
  x = side ∷ letters

  abbrev xs : List (List ℕ)
  xs = labelled (slips_of s es) cs

  many : length xs ≡ length es
  many = labelled_count (slips_of s es) cs ∙ slips_count s es

  module _ (i i' : ℕ) (h : i < n) (e : i' ≡ i + 1) (own : ℕ) (o : own ≡ get_or cs i 0) (part : List ℕ) (p : part ≡ slip (slips_of s es) i') (b : Bool)
      (q : b ≡ same (side ∷ letters) (own ∷ part)) where
    part_is : own ∷ part ≡ get_or xs i []
    part_is =
        let letters-here : part ≡ get_or (slips_of s es) i [] = p ∙ rw (e, add-one i) in
        let here = slip-labelled (slips_of s es) cs (suc i) (omega arith) (omega (arith, slips_count s es, there)) (omega (arith, there, as_many)) in
        rw (o, letters-here) (sym here)

    pub equal_here : b ≡ true → true ≡ any (same x) (take n xs)
    equal_here t =
        let size = length-take-le n xs (omega (arith, many, there)) in
        let found : same x (get_or (take n xs) i []) ≡ true = rw (get_or-take n xs i [] h, ← part_is, ← q) t in
        sym (in_any (same x) (get_or_in [] (take n xs) i (omega (arith, size))) found)

    pub equal_next : any (same x) (take i xs) ≡ false → b ≡ false → any (same x) (take i' xs) ≡ false
    equal_next a f =
        let differs : same x (get_or xs i []) ≡ false = rw (← part_is, ← q) f in
        rw (e, add-one i, take-suc xs i [] (omega (arith, many, there)), any_append, a, differs)

-- a slip of the second tray
module _ (s es cs t fs ds : List ℕ) (i : ℕ) (some : 1 ≤ i) (there : i ≤ length fs) (as_many : length ds ≡ length fs) (side : ℕ)
    (o : side ≡ get_or ds (i - 1) 0) (letters : List ℕ) (p : letters ≡ slip (slips_of t fs) i) where
  abbrev ws : List (List ℕ)
  ws = labelled (slips_of s es) cs

  abbrev ys : List (List ℕ)
  ys = labelled (slips_of t fs) ds

  x_is : side ∷ letters ≡ slip ys i
  x_is =
      sym (slip-labelled (slips_of t fs) ds i some (omega (arith, slips_count t fs, there)) (omega (arith, there, as_many))
      ∙ rw (← entry_at ds i some, ← o, ← p))

  first_all : any (same (side ∷ letters)) (take (length es) ws) ≡ any (same (side ∷ letters)) ws
  first_all = rw (take_all (length es) ws (omega (arith, labelled_count (slips_of s es) cs, slips_count s es)))

  module _ (b : Bool) (q : b ≡ any (same (side ∷ letters)) (take (length es) ws)) where
    pub new_first : b ≡ true → not b ≡ is_new ws ys i
    new_first h = rw (any_append, ← x_is, ← first_all, ← q, h)

    pub new_second : b ≡ false → (c : Bool) → c ≡ any (same (side ∷ letters)) (take (i - 1) ys) → not c ≡ is_new ws ys i
    new_second f c r = rw (any_append, ← x_is, ← first_all, ← q, f, ← r)
