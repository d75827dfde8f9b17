-- What ends at a place of a text, read off the state there.
--   owners_of ss M x   == the members of M whose slip is x, ascending if M is
-- A pattern that ends the text is a node, so it ends the state, which is the longest ending that begins a pattern. What ends a state is
-- the state itself, longest, or ends its failure: so the slips that end a text are those of the state, then those of its failure, and
-- so on along the failures, and within one state ascending.
use mathlib.Core.Path.{◌≡◌, sym, ap, ◌∙◌}
use mathlib.Core.Bool.{true, false, ◌||◌}
use mathlib.Core.Logic.{inl, inr}
use mathlib.Core.List.Memᴰ
use mathlib.Core.List.{List, [], ◌∷◌, ◌++◌}
use Prim.Native.Nat.{ℕ, zero, suc, ◌≤◌, ◌<◌}
use native.Mathlib.Omega.{arith}
use lib.Dec.{ltb}
use lib.ListN.{length, get_or}
use borrow.Author.Tests.{lt-ltb, lt-leb}
use Rattle.words.specs.Lists.{those, in_order}
use Rattle.words.specs.Words.{same, begins, ends, ends_properly}
use Rattle.words.proofs.Tests.{not_both, same_test}
use Rattle.words.proofs.Members.{In, Asc, Less, Sorts, in_those, those_in, asc_those, asc_append, asc_one, in_any, in_up_from, asc_up_from, in_order_sorts}
use Rattle.words.proofs.Picks.{those-same, those_none, asc_turn, get_or_in}
use Rattle.words.proofs.Orders.{same-is, same_at, up, down, lex_first, lex_then, lex_irr, lex_tr, lex_con}
use Rattle.words.proofs.Strings.{begins-refl}
use Rattle.trays.specs.Slips.{slip, numbers}
use Rattle.matching.specs.Moves.{begins_some, longest_ending}
use Rattle.matching.specs.Occurrences.{first_here, ending_at}
use Rattle.matching.proofs.Endings.{End, whole, below, by_end, end_trans, end_length, end_ends, ends_end, ends_cons, ends_properly_cons}
use Rattle.matching.proofs.States.{fail, longest_end, longest_most}
pub use Rattle.matching.specs.Occurrences.{ending_of}

abbrev pub owners_of : List (List ℕ) → List ℕ → List ℕ → List ℕ
owners_of ss M x = those (λ i. same (slip ss i) x) M

module _ (ps : List (List ℕ)) where
  -- a node that ends a text ends the state there
  pub ends_longest : (x t : List ℕ) → begins_some x ps ≡ true → ends x t ≡ ends x (longest_ending t ps)
  ends_longest x t n =
      same_test (ends x t) (ends x (longest_ending t ps))
      (λ h. end_ends x _ (longest_most ps x t (ends_end x t h) (inr n)))
      (λ h. end_ends x t (end_trans (ends_end x _ h) (longest_end ps t)))

  -- it is the state, or it ends its failure
  pub ends_fail : (x : List ℕ) (a : ℕ) (s : List ℕ) → begins_some x ps ≡ true → ends x (a ∷ s) ≡ same x (a ∷ s) || ends x (longest_ending s ps)
  ends_fail x a s n = ends_cons x a s ∙ ap (λ e. same x (a ∷ s) || e) (ends_longest x s n)

  pub ends_properly_fail : (x : List ℕ) (a : ℕ) (s : List ℕ) → begins_some x ps ≡ true → ends_properly x (a ∷ s) ≡ ends x (longest_ending s ps)
  ends_properly_fail x a s n = ends_properly_cons x a s ∙ ends_longest x s n

-- the order of report
module _ (ss : List (List ℕ)) where
  abbrev Sooner : ℕ → ℕ → Type 0
  Sooner = Less (first_here ss)

  first_here_irr : (i : ℕ) → Sooner i i → ⊥
  first_here_irr i h = not_both (first_here ss i i) h (lex_irr down (length (slip ss i)) (ltb i i) (up.irr i))

  first_here_tr : (i j k : ℕ) → Sooner i j → Sooner j k → Sooner i k
  first_here_tr i j k = lex_tr down (length (slip ss i)) (length (slip ss j)) (length (slip ss k)) (ltb i j) (ltb j k) (ltb i k) (up.tr i j k)

  first_here_con : (i k : ℕ) → first_here ss i k ≡ false → first_here ss k i ≡ false → i ≡ k
  first_here_con i k h g = (lex_con down (length (slip ss i)) (length (slip ss k)) (ltb i k) (ltb k i) (up.con i k) h g).1

  module _ (M : List ℕ) where
    ending_sorts : (t : List ℕ) → Sorts Sooner (those (λ i. ends (slip ss i) t) M) (ending_of ss M t)
    ending_sorts t = in_order_sorts (first_here ss) first_here_tr first_here_con (those (λ i. ends (slip ss i) t) M)

    pub in_ending : {i : ℕ} (t : List ℕ) → In i (ending_of ss M t) → In i M × End (slip ss i) t
    in_ending {i} t m = let k = in_those (λ i. ends (slip ss i) t) M ((ending_sorts t).back i m) in (k.0, ends_end (slip ss i) t k.1)

    pub ending_in : {i : ℕ} (t : List ℕ) → In i M → End (slip ss i) t → In i (ending_of ss M t)
    ending_in {i} t m h = (ending_sorts t).into i (those_in (λ i. ends (slip ss i) t) m (end_ends (slip ss i) t h))

    pub in_owners : {i : ℕ} (x : List ℕ) → In i (owners_of ss M x) → In i M × (slip ss i ≡ x)
    in_owners {i} x m = let k = in_those (λ i. same (slip ss i) x) M m in (k.0, same-is (slip ss i) x k.1)

    pub owners_in : {i : ℕ} (x : List ℕ) → In i M → slip ss i ≡ x → In i (owners_of ss M x)
    owners_in {i} x m e = those_in (λ i. same (slip ss i) x) m (rw e (same_at x))

    owners_asc : (x : List ℕ) → Asc ◌<◌ M → Asc Sooner (owners_of ss M x)
    owners_asc x asc =
        asc_turn ◌<◌ Sooner (owners_of ss M x)
        (λ i k p q h. lex_then down (length (slip ss i)) (length (slip ss k)) (ltb i k) (ap length ((in_owners x p).1 ∙ sym (in_owners x q).1)) (lt-ltb i k h))
        (asc_those ◌<◌ (λ i. same (slip ss i) x) M asc)

    owners-before : (a : ℕ) (t : List ℕ) (i k : ℕ) → In i (owners_of ss M (a ∷ t)) → In k (ending_of ss M t) → Sooner i k
    owners-before a t i k p q =
        lex_first down (length (slip ss i)) (length (slip ss k)) (ltb i k)
        (lt-ltb (length (slip ss k)) (length (slip ss i)) (omega (arith, ap length (in_owners (a ∷ t) p).1, end_length (in_ending t q).1)))

    -- what ends a text: the slips that are all of it, then what ends the text without its first letter
    pub ending_cons : (a : ℕ) (t : List ℕ) → Asc ◌<◌ M → ending_of ss M (a ∷ t) ≡ owners_of ss M (a ∷ t) ++ ending_of ss M t
    ending_cons a t asc =
        let own = owners_of ss M (a ∷ t) in
        asc_one Sooner first_here_irr first_here_tr (ending_of ss M (a ∷ t)) (own ++ ending_of ss M t) (ending_sorts (a ∷ t)).asc
        (asc_append Sooner own (ending_of ss M t) (owners_asc (a ∷ t) asc) (ending_sorts t).asc (owners-before a t))
        (λ i m.
        let k = in_ending (a ∷ t) m in
        by_end k.1 (λ e. Memᴰ.append_left _ (owners_in (a ∷ t) k.0 e)) (λ r. Memᴰ.append_right own (ending_in t k.0 r)))
        (λ i m. elim (Memᴰ.append_cases own m) [
          | inl o ↦ let k = in_owners (a ∷ t) o in ending_in (a ∷ t) k.0 (whole k.1)
          | inr o ↦ let k = in_ending t o in ending_in (a ∷ t) k.0 (below k.1)
        ])

    -- nothing ends the empty text, where every slip has a letter
    pub ending_none : ((k : ℕ) → In k M → 1 ≤ length (slip ss k)) → ending_of ss M [] ≡ []
    ending_none some =
        ap (in_order (first_here ss))
        (those_none (λ i. ends (slip ss i) []) M (λ i m. rw (lt-leb (length (slip ss i)) 0 (some i m))))

    -- for patterns that every member's slip begins
    module _ (ps : List (List ℕ)) (node : (k : ℕ) → In k M → begins_some (slip ss k) ps ≡ true) where
      pub ending_longest : (t : List ℕ) → ending_of ss M t ≡ ending_of ss M (longest_ending t ps)
      ending_longest t =
          ap (in_order (first_here ss))
          (those-same (λ i. ends (slip ss i) t) (λ i. ends (slip ss i) (longest_ending t ps)) M (λ i m. ends_longest ps (slip ss i) t (node i m)))

      -- what ends a state: its own slips, then what ends its failure
      pub ending_fail : (a : ℕ) (s : List ℕ) → Asc ◌<◌ M → ending_of ss M (a ∷ s) ≡ owners_of ss M (a ∷ s) ++ ending_of ss M (fail ps (a ∷ s))
      ending_fail a s asc = ending_cons a s asc ∙ ap (λ l. owners_of ss M (a ∷ s) ++ l) (ending_longest s)

-- all slips of a tray
module _ (ss : List (List ℕ)) where
  pub numbers_node : (k : ℕ) → In k (numbers ss) → begins_some (slip ss k) ss ≡ true
  numbers_node zero m = absurd (let h = in_up_from 1 (length ss) m in omega arith)
  numbers_node (suc i) m =
      in_any (begins (get_or ss i [])) (get_or_in [] ss i (let h = in_up_from 1 (length ss) m in omega arith)) (begins-refl (get_or ss i []))

  pub ending_at_longest : (t : List ℕ) → ending_at ss t ≡ ending_at ss (longest_ending t ss)
  ending_at_longest t = ending_longest ss (numbers ss) ss numbers_node t

  pub ending_at_fail : (a : ℕ) (s : List ℕ) → ending_at ss (a ∷ s) ≡ owners_of ss (numbers ss) (a ∷ s) ++ ending_at ss (fail ss (a ∷ s))
  ending_at_fail a s = ending_fail ss (numbers ss) ss numbers_node a s (asc_up_from 1 (length ss))

  pub ending_at_none : ((k : ℕ) → In k (numbers ss) → 1 ≤ length (slip ss k)) → ending_at ss [] ≡ []
  ending_at_none some = ending_none ss (numbers ss) some
