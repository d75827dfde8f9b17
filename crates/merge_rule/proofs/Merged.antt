-- Laws of `merged`, for any type and any test of equality eq.
--   merged-yes, merged_no    == its two clauses: the next member equals one that is written, or none
--   merged-first, merged_in  == what is written at the start stays written; nothing is written but members of the two lists
--   merged_rise              == it ascends where the two lists do, one after the other
--   merged_cover             == each member of the two lists is written, or an earlier one that it equals is
--   merged-map               == merging what f makes of two lists is what f makes of merging them
--   merged_append            == the second list may be merged in two parts
--   written_earlier          == where eq is transitive, a member equals one written before it where it equals any that comes before it
--   merged_equal, merged_new == so one member more is left out, or is written last
-- All but the clauses go by induction on the second list, the first one growing by what is written.
use mathlib.Core.Path.{◌≡◌, refl, ◌∙◌}
use mathlib.Core.Bool.{Bool, true, false}
use mathlib.Core.Logic.{◌⊎◌, inl, inr}
use mathlib.Core.List.Memᴰ
use mathlib.Core.List.{List, [], ◌∷◌, ◌++◌, append-nil, map, map-append}
use lib.Seq.{append_snoc}
use Rattle.words.specs.Lists.{any}
use Rattle.words.proofs.Tests.{by_test, same_test}
use Rattle.words.proofs.Members.{In, Asc, by_in, any_in, in_any}
use Rattle.words.proofs.Picks.{in_without, asc_without, asc_before}
use Rattle.words.proofs.Sums.{all_in}
use Rattle.words.proofs.Maps.{any-map}
use Rattle.merge_rule.specs.Merging.{merged}

module _ {A : Type 0} (eq : A → A → Bool) where
  pub merged-yes : (ws : List A) (x : A) (xs : List A) → any (eq x) ws ≡ true → merged eq ws (x ∷ xs) ≡ merged eq ws xs
  merged-yes ws x xs e = rw e

  pub merged_no : (ws : List A) (x : A) (xs : List A) → any (eq x) ws ≡ false → merged eq ws (x ∷ xs) ≡ merged eq (ws ++ (x ∷ [])) xs
  merged_no ws x xs e = rw e

  pub merged-first : (ws xs : List A) {a : A} → In a ws → In a (merged eq ws xs)
  merged-first ws [] m = m
  merged-first ws (x ∷ xs) m =
      by_test (any (eq x) ws)
      (λ y. rw (merged-yes ws x xs y) (merged-first ws xs m))
      (λ n. rw (merged_no ws x xs n) (merged-first (ws ++ (x ∷ [])) xs (Memᴰ.append_left (x ∷ []) m)))

  pub merged_in : (ws xs : List A) {a : A} → In a (merged eq ws xs) → In a (ws ++ xs)
  merged_in ws [] m = rw append-nil m
  merged_in ws (x ∷ xs) m =
      by_test (any (eq x) ws)
      (λ y. in_without ws x xs (merged_in ws xs (rw (merged-yes ws x xs y) at m)))
      (λ n. rw append_snoc at (merged_in (ws ++ (x ∷ [])) xs (rw (merged_no ws x xs n) at m)))

  pub merged_append : (ws xs ys : List A) → merged eq ws (xs ++ ys) ≡ merged eq (merged eq ws xs) ys
  merged_append ws [] ys = refl
  merged_append ws (x ∷ xs) ys = merged_append (elim (any (eq x) ws) [ true ↦ ws | false ↦ ws ++ (x ∷ []) ]) xs ys

  module _ (R : A → A → Type 0) where
    pub merged_rise : (ws xs : List A) → Asc R (ws ++ xs) → Asc R (merged eq ws xs)
    merged_rise ws [] p = rw append-nil at p
    merged_rise ws (x ∷ xs) p =
        by_test (any (eq x) ws)
        (λ y. rw (merged-yes ws x xs y) (merged_rise ws xs (asc_without R ws x xs p)))
        (λ n. rw (merged_no ws x xs n) (merged_rise (ws ++ (x ∷ [])) xs (rw append_snoc p)))

    pub merged_cover : (ws xs : List A) → Asc R (ws ++ xs) → (a : A) → In a (ws ++ xs) →
        In a (merged eq ws xs) ⊎ ((b : A) × In b (merged eq ws xs) × R b a × (eq a b ≡ true))
    merged_cover ws [] p a m = inl (rw append-nil at m)
    merged_cover ws (x ∷ xs) p a m =
        by_test (any (eq x) ws)
        (λ y. elim (Memᴰ.append_cases ws m) [
          | inl i ↦ inl (merged-first ws (x ∷ xs) i)
          | inr i ↦ by_in i
              (λ e. let (b, j, t) = any_in (eq x) ws y in inr (b, merged-first ws (x ∷ xs) j, asc_before R ws (x ∷ xs) p b a j i, rw e t))
              (λ k. rw (merged-yes ws x xs y) (merged_cover ws xs (asc_without R ws x xs p) a (Memᴰ.append_right ws k)))
        ])
        (λ n. rw (merged_no ws x xs n) (merged_cover (ws ++ (x ∷ [])) xs (rw append_snoc p) a (rw append_snoc m)))

  -- any list ascends by the relation that always holds
  any_order : (xs : List A) → Asc (λ a b. Unit {0}) xs
  any_order [] = tt
  any_order (x ∷ xs) = (λ y m. tt, any_order xs)

  module _ (tr : (x a b : A) → eq x a ≡ true → eq a b ≡ true → eq x b ≡ true) (ws xs : List A) (x : A) where
    pub written_earlier : any (eq x) (merged eq ws xs) ≡ any (eq x) (ws ++ xs)
    written_earlier =
        same_test (any (eq x) (merged eq ws xs)) (any (eq x) (ws ++ xs))
        (λ e. let (a, i, t) = any_in (eq x) (merged eq ws xs) e in in_any (eq x) (merged_in ws xs i) t)
        (λ e. let (a, i, t) = any_in (eq x) (ws ++ xs) e in
        elim (merged_cover (λ a b. Unit {0}) ws xs (any_order (ws ++ xs)) a i) [
          | inl j ↦ in_any (eq x) j t
          | inr (b, j, r, u) ↦ in_any (eq x) j (tr x a b t u)
        ])

    pub merged_equal : any (eq x) (ws ++ xs) ≡ true → merged eq ws (xs ++ (x ∷ [])) ≡ merged eq ws xs
    merged_equal e = merged_append ws xs (x ∷ []) ∙ merged-yes (merged eq ws xs) x [] (written_earlier ∙ e)

    pub merged_new : any (eq x) (ws ++ xs) ≡ false → merged eq ws (xs ++ (x ∷ [])) ≡ merged eq ws xs ++ (x ∷ [])
    merged_new e = merged_append ws xs (x ∷ []) ∙ merged_no (merged eq ws xs) x [] (written_earlier ∙ e)

module _ {A B : Type 0} (f : A → B) (eq : B → B → Bool) where
  any_eq : (x : A) (ws : List A) → any (eq (f x)) (map f ws) ≡ any (λ b. eq (f x) (f b)) ws
  any_eq x ws = any-map f (λ a. Unit {0}) (λ b. eq (f x) (f b)) (eq (f x)) (λ a p. refl) ws (all_in (λ a. Unit {0}) ws (λ a i. tt))

  pub merged-map : (ws xs : List A) → merged eq (map f ws) (map f xs) ≡ map f (merged (λ a b. eq (f a) (f b)) ws xs)
  merged-map ws [] = refl
  merged-map ws (x ∷ xs) =
      by_test (any (λ b. eq (f x) (f b)) ws)
      (λ y. rw y (merged-yes eq (map f ws) (f x) (map f xs) (any_eq x ws ∙ y) ∙ merged-map ws xs))
      (λ n. rw n (merged_no eq (map f ws) (f x) (map f xs) (any_eq x ws ∙ n) ∙ rw map-append at (merged-map (ws ++ (x ∷ [])) xs)))
