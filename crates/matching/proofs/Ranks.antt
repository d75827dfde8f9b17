-- The nodes of one length, as a loop over the ranks finds them.
--   zs           == the strings in dictionary order; the string of rank r is get_or zs r []
--   near zs r    == what the string of rank r has in common with the one before it
--   adds zs d r  == the prefix of d letters that rank r adds, in a list; nothing if it adds none
-- When the ranks below r are done, the prefixes found are those of the strings below r. The string of rank r has the last one found as its
-- prefix, the one that it adds or an earlier string's; so counting the new ones numbers the prefixes of all strings.
use mathlib.Core.Path.{◌≡◌, refl, sym, ap, ◌∙◌}
use mathlib.Core.Bool.{Bool, cond, ◌&&◌, and-false}
use mathlib.Core.Logic.{◌⊎◌, inl, inr}
use mathlib.Core.List.Memᴰ
use mathlib.Core.List.{List, [], ◌∷◌, ◌++◌, append-nil, append_assoc}
use Prim.Native.Nat.{ℕ, zero, suc, ◌+◌, ◌≤◌, ◌<◌}
use native.Mathlib.Nat.{zero-add}
use native.Mathlib.Omega.{arith}
use lib.Dec.{ltb, leb}
use lib.ListN.{length, get_or, take, drop, length-take, length-append, take-append-drop}
use lib.Seq.{take-suc, split_at, length-take-le, take-nil, take-length}
use borrow.Author.Tests.{lt-ltb, le-ltb, le-leb, lt-leb, leb-false}
use Rattle.words.specs.Lists.{each, those, up_from, last_or}
use Rattle.words.specs.Words.{common}
use Rattle.words.proofs.Tests.{tell}
use Rattle.words.proofs.Members.{In}
use Rattle.words.proofs.Picks.{each-those}
use Rattle.matching.proofs.Levels.{level, level_new, level_old, level_in, level-some, by_new, take-common}

abbrev pub near : List (List ℕ) → ℕ → ℕ
near zs r = common (get_or ([] ∷ zs) r []) (get_or zs r [])

abbrev pub adds : List (List ℕ) → ℕ → ℕ → List (List ℕ)
adds zs d r = cond (ltb (near zs r) d && leb d (length (get_or zs r []))) (take d (get_or zs r []) ∷ []) []

module _ (zs : List (List ℕ)) (d r : ℕ) where
  pub adds_new : near zs r < d → d ≤ length (get_or zs r []) → adds zs d r ≡ take d (get_or zs r []) ∷ []
  adds_new h l = rw (lt-ltb (near zs r) d h, le-leb d (length (get_or zs r [])) l)

  pub adds_old : (d ≤ near zs r) ⊎ (length (get_or zs r []) < d) → adds zs d r ≡ []
  adds_old (inl c) = rw (le-ltb (near zs r) d c)
  adds_old (inr l) = rw (lt-leb d (length (get_or zs r [])) l, and-false (ltb (near zs r) d))

pub last_or-take : (p : List ℕ) (zs : List (List ℕ)) (r : ℕ) → r ≤ length zs → last_or p (take r zs) ≡ get_or (p ∷ zs) r []
last_or-take p zs zero h = refl
last_or-take p [] (suc r) h = absurd (omega arith)
last_or-take p (z ∷ zs) (suc r) h = last_or-take z zs r (omega arith)

in_length : {A : Type 0} {a : A} {xs : List A} → In a xs → 1 ≤ length xs
in_length (Memᴰ.head e) = omega arith
in_length (Memᴰ.tail m) = omega arith

get_or_other : (u v : List ℕ) (xs : List (List ℕ)) (n : ℕ) → 1 ≤ n → get_or (u ∷ xs) n [] ≡ get_or (v ∷ xs) n []
get_or_other u v xs zero h = absurd (omega arith)
get_or_other u v xs (suc n) h = refl

module _ (d : ℕ) where
  pub level_append : (p : List ℕ) (xs ys : List (List ℕ)) → level d p (xs ++ ys) ≡ level d p xs ++ level d (last_or p xs) ys
  level_append p [] ys = refl
  level_append p (x ∷ xs) ys =
      by_new d p x
      (λ c l. rw (level_new d p x xs c l, level_new d p x (xs ++ ys) c l, level_append x xs ys))
      (λ o. rw (level_old d p x xs o, level_old d p x (xs ++ ys) o, level_append x xs ys))

  found : (z : List ℕ) (xs : List (List ℕ)) (x : List ℕ) → d ≤ length x → length z < d → 1 ≤ length (level d z (xs ++ (x ∷ [])))
  found z xs x h l =
      elim (level_in d z (xs ++ (x ∷ [])) x (Memᴰ.append_right xs (Memᴰ.head refl)) h) [
        | inl k ↦ in_length k
        | inr e ↦ absurd (omega (arith, ap length e, length-take-le d x h, length-take d z))
      ]

  level_one : (p x : List ℕ) → level d p (x ∷ []) ≡ cond (ltb (common p x) d && leb d (length x)) (take d x ∷ []) []
  level_one p x = elim (tell (ltb (common p x) d && leb d (length x))) [ inl t ↦ rw (t, level) | inr t ↦ rw (t, level) ]

  -- the last prefix found is that of the last string
  pub level_last :
      (p : List ℕ) (xs : List (List ℕ)) (x : List ℕ) (ys : List (List ℕ)) → d ≤ length x
      → get_or (take d p ∷ level d p (xs ++ (x ∷ ys))) (length (level d p (xs ++ (x ∷ [])))) [] ≡ take d x
  level_last p [] x ys h =
      by_new d p x
      (λ c l. rw (level_new d p x [] c l, level_new d p x ys c l))
      (λ o. rw (level_old d p x [] o) (elim o [ inl c ↦ take-common d p x c | inr l ↦ absurd (omega arith) ]))
  level_last p (z ∷ xs) x ys h =
      by_new d p z
      (λ c l. rw (level_new d p z (xs ++ (x ∷ [])) c l, level_new d p z (xs ++ (x ∷ ys)) c l) (level_last z xs x ys h))
      (λ o. rw (level_old d p z (xs ++ (x ∷ [])) o, level_old d p z (xs ++ (x ∷ ys)) o)
      (elim o [
        | inl c ↦ rw (take-common d p z c) (level_last z xs x ys h)
        | inr l ↦ get_or_other (take d p) (take d z) (level d z (xs ++ (x ∷ ys))) _ (found z xs x h l) ∙ level_last z xs x ys h
      ]))

  module _ (zs : List (List ℕ)) (r : ℕ) (h : r < length zs) where
    pub level_next : level d [] (take (suc r) zs) ≡ level d [] (take r zs) ++ adds zs d r
    level_next =
        rw (take-suc zs r [] h, level_append [] (take r zs) (get_or zs r [] ∷ []), last_or-take [] zs r (omega arith))
        (ap (λ l. level d [] (take r zs) ++ l) (level_one (get_or ([] ∷ zs) r []) (get_or zs r [])))

    pub level_node : d ≤ length (get_or zs r []) → get_or ([] ∷ level d [] zs) (length (level d [] (take (suc r) zs))) [] ≡ take d (get_or zs r [])
    level_node l = rw (← split_at zs r [] h, ← take-suc zs r [] h, take-nil d) at (level_last [] (take r zs) (get_or zs r []) (drop (suc r) zs) l)

module _ (d : ℕ) (zs : List (List ℕ)) where
  pub rank_some : (r : ℕ) → r < length zs → 1 ≤ d → d ≤ length (get_or zs r []) → 1 ≤ length (level d [] (take (suc r) zs))
  rank_some r h k l =
      let m : In (get_or zs r []) (take (suc r) zs) = rw (take-suc zs r [] h) (Memᴰ.append_right (take r zs) (Memᴰ.head refl)) in
      in_length (level-some d (take (suc r) zs) (get_or zs r []) k l m)

  pub rank_fits : (n : ℕ) → length (level d [] (take n zs)) ≤ length (level d [] zs)
  rank_fits n =
      let e : level d [] zs ≡ level d [] (take n zs) ++ level d (last_or [] (take n zs)) (drop n zs) =
      rw (take-append-drop n zs) at (level_append d [] (take n zs) (drop n zs)) in
      omega (arith, simp length-append at (ap length e))

each-up_from : {A : Type 0} (f : ℕ → List A) (i n : ℕ) → each f (up_from i (suc n)) ≡ each f (up_from i n) ++ f (i + n)
each-up_from f i zero = append-nil (f i) ∙ ap f (omega arith)
each-up_from f i (suc n) =
    let e : suc i + n ≡ i + suc n = omega arith in
    ap (λ l. f i ++ l) (each-up_from f (suc i) n)
    ∙ sym (append_assoc (f i) (each f (up_from (suc i) n)) (f (suc i + n)))
    ∙ ap (λ k. each f (up_from i (suc n)) ++ f k) e

module _ (d : ℕ) (zs : List (List ℕ)) where
  pub level_ranks : (n : ℕ) → n ≤ length zs → level d [] (take n zs) ≡ each (adds zs d) (up_from 0 n)
  level_ranks zero h = refl
  level_ranks (suc n) h =
      level_next d zs n h
      ∙ ap (λ l. l ++ adds zs d n) (level_ranks n (omega arith))
      ∙ ap (λ k. each (adds zs d) (up_from 0 n) ++ adds zs d k) (sym (zero-add n))
      ∙ sym (each-up_from (adds zs d) 0 n)

  -- the strings that are too short may be left out
  pub level_long : level d [] zs ≡ each (adds zs d) (those (λ r. leb d (length (get_or zs r []))) (up_from 0 (length zs)))
  level_long =
      let t : ℕ → Bool = λ r. leb d (length (get_or zs r [])) in
      let all : level d [] zs ≡ each (adds zs d) (up_from 0 (length zs)) = rw (take-length zs) at (level_ranks (length zs) (omega arith)) in
      all ∙ sym (each-those (adds zs d) t (up_from 0 (length zs)) (λ r e. adds_old zs d r (inr (leb-false d (length (get_or zs r [])) e))))
