-- Endings: suffixes as data, and the prefixes of patterns.
--   End y t   == y is a suffix of t, perhaps all of it
-- A suffix of a :: t is all of it or a suffix of t. Two suffixes of one text are suffixes of each other, the shorter of the longer; a
-- suffix of t with one more letter is a suffix of t with that letter, and every suffix of that is empty or of this kind.
use mathlib.Core.Path.{◌≡◌, refl, sym, ap, ◌∙◌}
use mathlib.Core.Bool.{true, ◌||◌}
use mathlib.Core.Logic.{◌⊎◌, inl, inr}
use mathlib.Core.List.Memᴰ
use mathlib.Core.List.{List, [], ◌∷◌, ◌++◌, map}
use Prim.Native.Nat.{ℕ, zero, suc, ◌-◌, ◌≤◌, ◌<◌}
use native.Mathlib.Omega.{arith}
use lib.ListN.{length, drop}
use Rattle.words.specs.Words.{same, begins, ends, ends_properly}
use Rattle.words.proofs.Tests.{either, or_left, or_right, same_test}
use Rattle.words.proofs.Members.{In, in_any, any_in}
use Rattle.words.proofs.Orders.{same-is, same_at}
use Rattle.words.proofs.Strings.{begins_trans, ends-drop, drop-ends, ends_properly-ends, ends-ends_properly}
use Rattle.trays.specs.Slips.{slip}
use Rattle.matching.specs.Moves.{begins_some}

pub data End (y : List ℕ) : List ℕ → Type 0 where
  whole : {t : List ℕ} → y ≡ t → End y t
  below : {a : ℕ} {t : List ℕ} → End y t → End y (a ∷ t)

pub by_end : {P : Type 0} {y t : List ℕ} {a : ℕ} → End y (a ∷ t) → (y ≡ a ∷ t → P) → (End y t → P) → P
by_end (whole e) p q = p e
by_end (below r) p q = q r

pub end_cases : {P : Type 0} {y t : List ℕ} → End y t → (y ≡ t → P) → ((a : ℕ) (v : List ℕ) → t ≡ a ∷ v → End y v → P) → P
end_cases (whole e) p q = p e
end_cases (below {a} {t} r) p q = q a t refl r

pub end_nil : {y : List ℕ} → End y [] → y ≡ []
end_nil (whole e) = e

pub nil_end : (t : List ℕ) → End [] t
nil_end [] = whole refl
nil_end (a ∷ t) = below (nil_end t)

pub end_trans : {x y z : List ℕ} → End x y → End y z → End x z
end_trans e (whole h) = rw (← h) e
end_trans e (below f) = below (end_trans e f)

pub end_length : {y t : List ℕ} → End y t → length y ≤ length t
end_length (whole e) = rw e (omega arith)
end_length (below r) = let h = end_length r in omega arith

-- a suffix with as many letters is the whole
pub end_full : {y t : List ℕ} → End y t → length t ≤ length y → y ≡ t
end_full (whole e) h = e
end_full (below r) h = absurd (let l = end_length r in omega arith)

pub end_both : {x y : List ℕ} → End x y → End y x → x ≡ y
end_both e f = end_full e (end_length f)

-- of two suffixes of one text the shorter is a suffix of the longer
pub end_among : {x y t : List ℕ} → End x t → End y t → length x ≤ length y → End x y
end_among (whole e) f h = whole (e ∙ sym (end_full f (rw e at h)))
end_among (below r) (whole e) h = rw e (below r)
end_among (below r) (below q) h = end_among r q h

pub end_append : {y t : List ℕ} (v : List ℕ) → End y t → End (y ++ v) (t ++ v)
end_append v (whole e) = whole (ap (λ l. l ++ v) e)
end_append v (below r) = below (end_append v r)

-- a suffix of a text with one more letter is empty or a suffix of the text with that letter
pub end_letter : {z : List ℕ} (t : List ℕ) (b : ℕ) → End z (t ++ (b ∷ [])) → (z ≡ []) ⊎ ((y : List ℕ) × End y t × (z ≡ y ++ (b ∷ [])))
end_letter [] b h = by_end h (λ e. inr ([], whole refl, e)) (λ r. inl (end_nil r))
end_letter (a ∷ t) b h =
    by_end h (λ e. inr (a ∷ t, whole refl, e)) (λ r. elim (end_letter t b r) [ inl e ↦ inl e | inr k ↦ inr (k.0, below k.1, k.2) ])

pub end_drop : (k : ℕ) (t : List ℕ) → End (drop k t) t
end_drop zero t = whole refl
end_drop (suc k) [] = whole refl
end_drop (suc k) (a ∷ t) = below (end_drop k t)

pub end_behind : (u x : List ℕ) → End x (u ++ x)
end_behind [] x = whole refl
end_behind (a ∷ u) x = below (end_behind u x)

pub end_is : {x t : List ℕ} → End x t → drop (length t - length x) t ≡ x
end_is {x} {t} (whole e) = let h : length t - length x ≡ 0 = rw e (omega arith) in rw h (sym e)
end_is {x} (below {t} r) =
    let l = end_length r in
    let h : suc (length t) - length x ≡ suc (length t - length x) = omega arith in rw h (end_is r)

pub end_ends : (x t : List ℕ) → End x t → ends x t ≡ true
end_ends x t e = rw (end_is e) at (drop-ends (length t - length x) t)

pub ends_end : (x t : List ℕ) → ends x t ≡ true → End x t
ends_end x t h = rw (ends-drop x t h) at (end_drop (length t - length x) t)

pub end_properly : (x t : List ℕ) → End x t → length x < length t → ends_properly x t ≡ true
end_properly x t e h = ends-ends_properly x t h (end_ends x t e)

pub properly_end : (x t : List ℕ) → ends_properly x t ≡ true → End x t × (length x < length t)
properly_end x t h = let p = ends_properly-ends x t h in (ends_end x t p.1, p.0)

-- what ends a text ends it whole, or ends what is left without its first letter
pub ends_cons : (x : List ℕ) (a : ℕ) (t : List ℕ) → ends x (a ∷ t) ≡ same x (a ∷ t) || ends x t
ends_cons x a t =
    same_test (ends x (a ∷ t)) (same x (a ∷ t) || ends x t)
    (λ h. by_end (ends_end x (a ∷ t) h)
    (λ e. or_left (same x (a ∷ t)) (ends x t) (rw e (same_at (a ∷ t))))
    (λ r. or_right (same x (a ∷ t)) (ends x t) (end_ends x t r)))
    (λ h. end_ends x (a ∷ t)
    (elim (either (same x (a ∷ t)) (ends x t) h) [ inl e ↦ whole (same-is x (a ∷ t) e) | inr e ↦ below (ends_end x t e) ]))

pub ends_properly_cons : (x : List ℕ) (a : ℕ) (t : List ℕ) → ends_properly x (a ∷ t) ≡ ends x t
ends_properly_cons x a t =
    same_test (ends_properly x (a ∷ t)) (ends x t)
    (λ h. let p = properly_end x (a ∷ t) h in
    by_end p.0 (λ e. absurd (let l = p.1 in omega (arith, ap length e))) (λ r. end_ends x t r))
    (λ h. let r = ends_end x t h in end_properly x (a ∷ t) (below r) (omega (arith, end_length r)))

pub begins-some : (x y : List ℕ) (ps : List (List ℕ)) → begins x y ≡ true → begins_some y ps ≡ true → begins_some x ps ≡ true
begins-some x y ps h k =
    let p = any_in (begins y) ps k in in_any (begins x) p.1 (begins_trans x y p.0 h p.2)

-- the patterns are the members' slips
module _ (ss : List (List ℕ)) (M : List ℕ) where
  pub slip-some : (x : List ℕ) {k : ℕ} → In k M → begins x (slip ss k) ≡ true → begins_some x (map (slip ss) M) ≡ true
  slip-some x m h = in_any (begins x) (Memᴰ.map (slip ss) m) h

  pub some-slip : (x : List ℕ) → begins_some x (map (slip ss) M) ≡ true → (k : ℕ) × In k M × (begins x (slip ss k) ≡ true)
  some-slip x h =
      let p = any_in (begins x) (map (slip ss) M) h in
      let k = Memᴰ.of_map (slip ss) M p.1 in
      (k.0, k.1, rw k.2 p.2)
