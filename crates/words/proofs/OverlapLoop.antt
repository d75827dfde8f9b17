-- One turn of the loop that tries the suffixes of a, from the longest on.
use mathlib.Core.Path.{◌≡◌, refl, sym, ◌∙◌, ap}
use mathlib.Core.Bool.{Bool, true, false, ◌&&◌}
use mathlib.Core.List.{List, [], ◌∷◌}
use Prim.Native.Nat.{ℕ, suc, ◌+◌, ◌-◌, ◌≤◌, ◌<◌}
use native.Mathlib.Numerals.{add-one}
use native.Mathlib.Omega.{arith}
use lib.Dec.{eqb}
use lib.ListN.{length, get_or, take, drop, length-drop, drop_of_length-le}
use lib.Seq.{drop-cons, take_all, get_or-drop}
use Rattle.std.specs.Cmp.Lexicographic.{pointwise}
use Rattle.words.specs.Words.{begins, overlap}
use Rattle.words.proofs.Strings.{begins-length, begins-at}
use Rattle.words.proofs.Tests.{by_test}

-- the part `&a[i..]` is the suffix from i on
pub suffix : (a : List ℕ) (i : ℕ) → take (length a - i) (drop i a) ≡ drop i a
suffix a i = take_all (length a - i) (drop i a) (rw length-drop (omega arith))

-- the library's word for a prefix
pub pointwise-begins : (x b : List ℕ) → pointwise eqb x (take (length x) b) ≡ begins x b
pointwise-begins [] b = refl
pointwise-begins (y ∷ x) [] = refl
pointwise-begins (y ∷ x) (z ∷ b) = ap (λ t. eqb y z && t) (pointwise-begins x b)

begins_nonempty : (x b : List ℕ) → 1 ≤ length x → begins x b ≡ true → overlap x b ≡ length x
begins_nonempty [] b h e = refl
begins_nonempty (y ∷ x) b h e = rw (overlap, e)

pub overlap_hit : (a b : List ℕ) (i : ℕ) (r : Bool) → i < length a → r ≡ begins (take (length a - i) (drop i a)) b → r ≡ true →
    overlap a b ≡ overlap (drop i a) b → length a - i ≡ overlap a b
overlap_hit a b i r h e t o =
    let s : begins (drop i a) b ≡ true = rw suffix at (sym e ∙ t) in
    let n : length (drop i a) ≡ length a - i = length-drop i a in
    let g : overlap (drop i a) b ≡ length (drop i a) = begins_nonempty (drop i a) b (omega arith) s in
    omega arith

-- the suffix from i on is no prefix of b, so the overlap is that of the suffix behind it
next : (a b : List ℕ) (i : ℕ) → i < length a → begins (drop i a) b ≡ false → overlap a b ≡ overlap (drop i a) b →
    overlap a b ≡ overlap (drop (i + 1) a) b
next a b i h s o =
    let g : overlap (drop i a) b ≡ overlap (drop (suc i) a) b = rw (drop-cons a i 0, overlap, rw (drop-cons a i 0) at s) in
    rw add-one (o ∙ g)

pub overlap_miss : (a b : List ℕ) (i : ℕ) (r : Bool) → i < length a → r ≡ begins (take (length a - i) (drop i a)) b → r ≡ false →
    overlap a b ≡ overlap (drop i a) b → overlap a b ≡ overlap (drop (i + 1) a) b
overlap_miss a b i r h e t o = next a b i h (rw suffix at (sym e ∙ t)) o

-- b is too short for it
pub overlap_long : (a b : List ℕ) (i : ℕ) → i < length a → length b < length a - i → overlap a b ≡ overlap (drop i a) b →
    overlap a b ≡ overlap (drop (i + 1) a) b
overlap_long a b i h l o =
    let n : length (drop i a) ≡ length a - i = length-drop i a in
    by_test (begins (drop i a) b) (λ t. let m = begins-length (drop i a) b t in absurd (omega arith)) (λ f. next a b i h f o)

-- b has another letter where its last one would stand
pub overlap_last : (a b : List ℕ) (i : ℕ) → i < length a → (get_or b (length a - i - 1) 0 ≡ get_or a (length a - 1) 0 → ⊥) →
    overlap a b ≡ overlap (drop i a) b → overlap a b ≡ overlap (drop (i + 1) a) b
overlap_last a b i h d o =
    let n : length (drop i a) ≡ length a - i = length-drop i a in
    by_test (begins (drop i a) b)
    (λ t.
    let e : get_or (drop i a) (length a - i - 1) 0 ≡ get_or b (length a - i - 1) 0 = begins-at (drop i a) b (length a - i - 1) t (omega arith) in
    let p : i + (length a - i - 1) ≡ length a - 1 = omega arith in
    absurd (d (sym e ∙ (get_or-drop i a (length a - i - 1) 0 ∙ ap (λ k. get_or a k 0) p))))
    (λ f. next a b i h f o)

pub overlap_none : (a b : List ℕ) (i : ℕ) → length a ≤ i → overlap a b ≡ overlap (drop i a) b → 0 ≡ overlap a b
overlap_none a b i h o = rw (o, drop_of_length-le a h)
