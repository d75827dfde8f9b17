-- Overlaps: the longest suffix of one string that is a prefix of another.
--   overlap a b           == the length of the longest suffix of a that is a prefix of b
--   overlap_for counts a b == that length if the overlap string counts, else 0
--   Counts counts         == the empty string does not count, and what begins with a string that counts does
-- Two laws say all of `overlap`: it is the length of a suffix that begins b (`overlap-cut`), and no such suffix is longer (`overlap_max`).
-- The exchange inequality: a's overlap with b holds a suffix that begins d, and a prefix that ends c; the letters that both have in common are a
-- suffix of c that begins d.
use mathlib.Core.Path.{◌≡◌, refl, sym, ap, ◌∙◌}
use mathlib.Core.Bool.{Bool, true, false, false≢true}
use mathlib.Core.Logic.{inl, inr}
use mathlib.Core.List.{List, [], ◌∷◌, ◌++◌, append_assoc}
use Prim.Native.Nat.{ℕ, zero, suc, ◌+◌, ◌-◌, ◌≤◌, ◌<◌}
use native.Mathlib.Decide.{dec_lt}
use native.Mathlib.Omega.{arith}
use lib.ListN.{length, take, drop, length-drop, take-append-drop}
use lib.Seq.{length-take-le, drop-drop}
use Rattle.words.specs.Words.{begins, ends, ends_properly, overlap, overlap_for, non_empty}
use Rattle.words.proofs.Tests.{tell, not_both}
use Rattle.words.proofs.Strings.{begins-take, begins_prefix, begins-length, begins_trans, begins-drop, begins_both}
use Rattle.words.proofs.Strings.{ends-length, ends-drop, drop-ends, ends_properly-ends, ends-ends_properly}

-- the two clauses of `overlap`
overlap-whole : (x : ℕ) (xs b : List ℕ) → begins (x ∷ xs) b ≡ true → overlap (x ∷ xs) b ≡ suc (length xs)
overlap-whole x xs b e = rw (e, overlap)

overlap-less : (x : ℕ) (xs b : List ℕ) → begins (x ∷ xs) b ≡ false → overlap (x ∷ xs) b ≡ overlap xs b
overlap-less x xs b e = rw (e, overlap)

pub overlap-cut : (a b : List ℕ) → (k : ℕ) × (k + overlap a b ≡ length a) × (begins (drop k a) b ≡ true)
overlap-cut [] b = (0, refl, refl)
overlap-cut (x ∷ xs) b =
    elim (tell (begins (x ∷ xs) b)) [
      | inl e ↦ (0, omega (arith, overlap-whole x xs b e), e)
      | inr e ↦ let r = overlap-cut xs b in (suc r.0, omega (arith, overlap-less x xs b e, r.1), r.2)
    ]

pub overlap_max : (k : ℕ) (a b : List ℕ) → begins (drop k a) b ≡ true → length a ≤ k + overlap a b
overlap_max k [] b h = omega arith
overlap_max zero (x ∷ xs) b h = omega (arith, overlap-whole x xs b h)
overlap_max (suc k) (x ∷ xs) b h =
    elim (tell (begins (x ∷ xs) b)) [
      | inl e ↦ omega (arith, overlap-whole x xs b e)
      | inr e ↦ omega (arith, overlap-less x xs b e, overlap_max k xs b h)
    ]

pub overlap_at_most : (a b : List ℕ) → overlap a b ≤ length a
overlap_at_most a b = omega (arith, (overlap-cut a b).1)

pub overlap-fits : (a b : List ℕ) → overlap a b ≤ length b
overlap-fits a b =
    let r = overlap-cut a b in
    omega (arith, r.1, length-drop r.0 a, begins-length (drop r.0 a) b r.2)

pub overlap_nil : (a : List ℕ) → overlap a [] ≡ 0
overlap_nil a = omega (arith, overlap-fits a [])

-- the overlap string
pub overlap-length : (a b : List ℕ) → length (take (overlap a b) b) ≡ overlap a b
overlap-length a b = length-take-le (overlap a b) b (overlap-fits a b)

pub overlap-begins : (a b : List ℕ) → begins (take (overlap a b) b) b ≡ true
overlap-begins a b = begins_prefix (overlap a b) b

pub overlap-drop : (a b : List ℕ) (k : ℕ) → k + overlap a b ≡ length a → drop k a ≡ take (overlap a b) b
overlap-drop a b k e =
    let r = overlap-cut a b in
    let h : k ≡ r.0 = omega (arith, r.1) in
    let n : length (drop r.0 a) ≡ overlap a b = omega (arith, length-drop r.0 a, r.1) in
    rw (h, ← n) (sym (begins-take (drop r.0 a) b r.2))

pub overlap-ends : (a b : List ℕ) → drop (length a - overlap a b) a ≡ take (overlap a b) b
overlap-ends a b = overlap-drop a b (length a - overlap a b) (omega (arith, overlap_at_most a b))

pub overlap_full : (a b : List ℕ) → length a ≤ overlap a b → begins a b ≡ true
overlap_full a b h = rw (sym (overlap-drop a b 0 (omega (arith, overlap_at_most a b)))) at (overlap-begins a b)

pub overlap_suffix : (a b : List ℕ) → ends (take (overlap a b) b) a ≡ true
overlap_suffix a b = rw (overlap-ends a b) at (drop-ends (length a - overlap a b) a)

pub overlap_met : (a b : List ℕ) → overlap a b < length a → ends_properly (take (overlap a b) b) a ≡ true
overlap_met a b h = ends-ends_properly (take (overlap a b) b) a (omega (arith, overlap-length a b)) (overlap_suffix a b)

pub suffix_overlap : (x a b : List ℕ) → ends x a ≡ true → begins x b ≡ true → length x ≤ overlap a b
suffix_overlap x a b e h =
    let d = ends-drop x a e in
    omega (arith, overlap_max (length a - length x) a b (rw d h), ends-length x a e)

pub met_overlap : (x a b : List ℕ) → ends_properly x a ≡ true → begins x b ≡ true → length x ≤ overlap a b
met_overlap x a b e h = suffix_overlap x a b (ends_properly-ends x a e).1 h

pub exchange : (a b c d : List ℕ) → overlap a d ≤ overlap a b → overlap c b ≤ overlap a b → overlap a d + overlap c b ≤ overlap a b + overlap c d
exchange a b c d h i =
    let p = overlap-cut a b in
    let q = overlap-cut a d in
    let r = overlap-cut c b in
    let j : ℕ = overlap a b - overlap a d in
    let s : List ℕ = drop (r.0 + j) c in
    let t : List ℕ = drop q.0 a in
    let e : p.0 + j ≡ q.0 = omega (arith, p.1, q.1) in
    let ta : begins t (drop j b) ≡ true = rw (drop-drop j p.0 a, e) at (begins-drop j (drop p.0 a) b p.2) in
    let sc : begins s (drop j b) ≡ true = rw (drop-drop j r.0 c) at (begins-drop j (drop r.0 c) b r.2) in
    let le : length s ≤ length t = omega (arith, length-drop (r.0 + j) c, length-drop q.0 a, p.1, q.1, r.1) in
    let sd : begins s d ≡ true = begins_trans s t d (begins_both s t (drop j b) sc ta le) q.2 in
    omega (arith, overlap_max (r.0 + j) c d sd, p.1, q.1, r.1)

-- b laid over a so that the overlap is written once: the letters still end with b
pub lay_over : (a b : List ℕ) → (u : List ℕ) × (a ++ drop (overlap a b) b ≡ u ++ b)
lay_over a b =
    let r = overlap-cut a b in
    let o : ℕ = overlap a b in
    let h : a ≡ take r.0 a ++ take o b = sym (take-append-drop r.0 a) ∙ ap (λ s. take r.0 a ++ s) (overlap-drop a b r.0 r.1) in
    (take r.0 a, ap (λ s. s ++ drop o b) h ∙ (append_assoc (take r.0 a) (take o b) (drop o b) ∙ ap (λ s. take r.0 a ++ s) (take-append-drop o b)))

-- overlaps that count
pub record Counts (counts : List ℕ → Bool) : Type 0 where
  pub empty : counts [] ≡ false
  pub longer : (x y : List ℕ) → begins x y ≡ true → counts x ≡ true → counts y ≡ true

pub non_empty_counts : Counts non_empty
non_empty_counts = record { empty = refl; longer = longer }
  where
    longer : (x y : List ℕ) → begins x y ≡ true → non_empty x ≡ true → non_empty y ≡ true
    longer [] y e h = absurd (false≢true h)
    longer (x ∷ xs) [] e h = e
    longer (x ∷ xs) (y ∷ ys) e h = refl

pub counts_some : (counts : List ℕ → Bool) → Counts counts → (x : List ℕ) → counts x ≡ true → 1 ≤ length x
counts_some counts C [] e = absurd (not_both (counts []) e C.empty)
counts_some counts C (x ∷ xs) e = omega arith

module _ (counts : List ℕ → Bool) (a b : List ℕ) where
  pub overlap_for-yes : counts (take (overlap a b) b) ≡ true → overlap_for counts a b ≡ overlap a b
  overlap_for-yes e = rw (e, overlap_for)

  pub overlap_for_no : counts (take (overlap a b) b) ≡ false → overlap_for counts a b ≡ 0
  overlap_for_no e = rw (e, overlap_for)

  pub overlap_for_at_most : overlap_for counts a b ≤ overlap a b
  overlap_for_at_most = elim (tell (counts (take (overlap a b) b))) [ inl e ↦ omega (arith, overlap_for-yes e) | inr e ↦ omega (arith, overlap_for_no e) ]

  pub overlap_for-fits : overlap_for counts a b ≤ length b
  overlap_for-fits = omega (arith, overlap_for_at_most, overlap-fits a b)

  pub lay_over_for : (u : List ℕ) × (a ++ drop (overlap_for counts a b) b ≡ u ++ b)
  lay_over_for =
      elim (tell (counts (take (overlap a b) b))) [
        | inl e ↦ rw (overlap_for-yes e) (lay_over a b)
        | inr e ↦ rw (overlap_for_no e) (a, refl)
      ]

  -- a pair whose overlap string counts is one with a positive overlap
  pub overlap_for-some : 1 ≤ overlap_for counts a b → counts (take (overlap a b) b) ≡ true
  overlap_for-some h = elim (tell (counts (take (overlap a b) b))) [ inl e ↦ e | inr e ↦ absurd (omega (arith, overlap_for_no e)) ]

  -- where every prefix of b counts, the overlap is the plain one
  pub overlap_for_all : ((n : ℕ) → 1 ≤ n → n ≤ length b → counts (take n b) ≡ true) → overlap_for counts a b ≡ overlap a b
  overlap_for_all h =
      elim (dec_lt 0 (overlap a b)) [ yes p ↦ overlap_for-yes (h (overlap a b) p (overlap-fits a b)) | no z ↦ omega (arith, overlap_for_at_most) ]

  module _ (C : Counts counts) where
    pub some-overlap_for : counts (take (overlap a b) b) ≡ true → 1 ≤ overlap_for counts a b
    some-overlap_for e = omega (arith, overlap_for-yes e, overlap-length a b, counts_some counts C (take (overlap a b) b) e)

    -- a suffix of a that begins b and counts makes the overlap string count
    pub suffix_counts : (x : List ℕ) → ends x a ≡ true → begins x b ≡ true → counts x ≡ true → counts (take (overlap a b) b) ≡ true
    suffix_counts x e h c =
        let l : length x ≤ length (take (overlap a b) b) = omega (arith, suffix_overlap x a b e h, overlap-length a b) in
        C.longer x (take (overlap a b) b) (begins_both x (take (overlap a b) b) b h (overlap-begins a b) l) c

pub overlap_for-non_empty : (a b : List ℕ) → overlap_for non_empty a b ≡ overlap a b
overlap_for-non_empty a b = overlap_for_all non_empty a b (λ n h l. some (take n b) (omega (arith, length-take-le n b l)))
  where
    some : (x : List ℕ) → 1 ≤ length x → non_empty x ≡ true
    some [] h = absurd (omega arith)
    some (x ∷ xs) h = refl
