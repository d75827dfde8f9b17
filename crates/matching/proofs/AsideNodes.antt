-- Slips set aside, read off the automaton of the members' slips.
--   Inner ps x       == a longer node begins with x, or x is the failure of a node
--   Earlier ss M i   == a member of a lower number has the letters of slip i
-- A string that stands in a longer slip ends a prefix of that slip. If it is the prefix, the prefix goes on by a letter; if not, then on
-- the way along the failures from that prefix the last node longer than the string fails to it.
use mathlib.Core.Path.{◌≡◌, sym, ap, subst, ◌∙◌}
use mathlib.Core.Bool.{true}
use mathlib.Core.Logic.{◌⊎◌, inl, inr}
use mathlib.Core.List.{List, [], ◌∷◌, ◌++◌, map, append_assoc}
use Prim.Native.Nat.{ℕ, zero, suc, ◌<◌}
use native.Mathlib.Omega.{arith}
use lib.ListN.{length, get_or, length-append}
use lib.Seq.{take-suc}
use Rattle.words.specs.Words.{begins, stands_in}
use Rattle.words.proofs.Members.{In, in_any, any_in}
use Rattle.words.proofs.Strings.{begins-here, begins-take, begins_prefix, begins-length, begins_stands, ends_stands, stands_split, stands_trans, begins-refl}
use Rattle.trays.specs.Slips.{slip}
use Rattle.trays.specs.Aside.{aside_for, is_aside}
use Rattle.trays.proofs.Kept.{aside_longer, aside_equal, aside_cases}
use Rattle.matching.specs.Moves.{begins_some}
use Rattle.matching.proofs.Endings.{End, below, end_cases, end_length, end_behind, end_ends, begins-some, slip-some, some-slip}
use Rattle.matching.proofs.States.{Node, fail, longest_end, longest_length, longest_node, longest_most}

abbrev pub Inner : List (List ℕ) → List ℕ → Type 0
Inner ps x =
    ((c : ℕ) × (begins_some (x ++ (c ∷ [])) ps ≡ true)) ⊎ ((a : ℕ) × (t : List ℕ) × (begins_some (a ∷ t) ps ≡ true) × (fail ps (a ∷ t) ≡ x))

abbrev pub Earlier : List (List ℕ) → List ℕ → ℕ → Type 0
Earlier ss M i = (k : ℕ) × In k M × (k < i) × (slip ss i ≡ slip ss k)

begins_more : (x y : List ℕ) → begins x y ≡ true → length x < length y → begins (x ++ (get_or y (length x) 0 ∷ [])) y ≡ true
begins_more x y b h =
    rw (take-suc y (length x) 0 h, begins-take x y b) at (begins_prefix (suc (length x)) y)

-- a string that stands in another ends one of its prefixes
stands_end : (x y : List ℕ) → stands_in x y ≡ true → (u : List ℕ) × (begins u y ≡ true) × End x u
stands_end x y h =
    let (u, v, e) = stands_split x y h in
    (u ++ x, subst (λ t. begins (u ++ x) t ≡ true) (append_assoc u x v ∙ sym e) (begins-here (u ++ x) v), end_behind u x)

module _ (ps : List (List ℕ)) where
  -- a node that properly ends a node is the failure of one
  pub end_fail : (f a : ℕ) (t x : List ℕ) → length t < f → begins_some (a ∷ t) ps ≡ true → Node ps x → End x t
      → (b : ℕ) × (u : List ℕ) × (begins_some (b ∷ u) ps ≡ true) × (fail ps (b ∷ u) ≡ x)
  end_fail zero a t x h b n e = absurd (omega arith)
  end_fail (suc f) a t x h b n e =
      end_cases (longest_most ps x t e n)
      (λ w. (a, t, b, sym w))
      (λ c v w r.
      let node : begins_some (c ∷ v) ps ≡ true = elim (longest_node ps t) [ inl z ↦ absurd (omega (arith, ap length (sym z ∙ w))) | inr z ↦ rw w at z ] in
      end_fail f c v x (omega (arith, longest_length ps t, ap length w)) node n r)

  pub stands_inner : (x y : List ℕ) → Node ps x → begins_some y ps ≡ true → length x < length y → stands_in x y ≡ true → Inner ps x
  stands_inner x y o n h s =
      let (u, b, e) = stands_end x y s in
      let k = begins-some u y ps b n in
      end_cases e
      (λ w. inl (get_or y (length x) 0, begins-some (x ++ (get_or y (length x) 0 ∷ [])) y ps (begins_more x y (rw w b) h) n))
      (λ a v w r. inr (end_fail (suc (length v)) a v x (omega arith) (rw w at k) o r))

module _ (ss : List (List ℕ)) (i : ℕ) where
  module _ (M : List ℕ) where
    abbrev ps : List (List ℕ)
    ps = map (slip ss) M

    member_some : {k : ℕ} → In k M → begins_some (slip ss k) ps ≡ true
    member_some {k} m = slip-some ss M (slip ss k) m (begins-refl (slip ss k))

    pub aside_inner : In i M → is_aside ss M i ≡ true → Inner ps (slip ss i) ⊎ Earlier ss M i
    aside_inner m h =
        let (k, p, e) = any_in (aside_for ss i) M h in
        elim (aside_cases ss i k e) [
          | inl (l, s) ↦ inl (stands_inner ps (slip ss i) (slip ss k) (inr (member_some m)) (member_some p) l s)
          | inr (l, s) ↦ inr (k, p, l, s)
        ]

    -- a longer node in which the slip stands
    longer_aside : (y : List ℕ) → begins_some y ps ≡ true → length (slip ss i) < length y → stands_in (slip ss i) y ≡ true → is_aside ss M i ≡ true
    longer_aside y n h s =
        let (k, m, b) = some-slip ss M y n in
        in_any (aside_for ss i) m
        (aside_longer ss i k (omega (arith, begins-length y (slip ss k) b))
        (stands_trans (slip ss i) y (slip ss k) s (begins_stands y (slip ss k) b)))

    pub inner_aside : Inner ps (slip ss i) ⊎ Earlier ss M i → is_aside ss M i ≡ true
    inner_aside (inl (inl r)) =
        let y = slip ss i ++ (r.0 ∷ []) in
        longer_aside y r.1 (omega (arith, length-append (slip ss i) (r.0 ∷ [])))
        (begins_stands (slip ss i) y (begins-here (slip ss i) (r.0 ∷ [])))
    inner_aside (inl (inr r)) =
        let y = r.0 ∷ r.1 in
        let e : End (slip ss i) r.1 = rw r.3 at (longest_end ps r.1) in
        longer_aside y r.2 (omega (arith, end_length e)) (ends_stands (slip ss i) y (end_ends (slip ss i) y (below e)))
    inner_aside (inr r) =
        in_any (aside_for ss i) r.1 (aside_equal ss i r.0 r.2 r.3)
