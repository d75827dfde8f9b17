-- Nodes by number: strings, parents and letters, children, failures.
--   ps, ns            == the patterns; the nodes' strings by number, node 0 the empty string
--   str ns v          == the string of node v
--   Num ns v          == v is the number of a node with a letter
--   Numbered ps ns    == ns ascends by `lower` and has exactly the empty string and the prefixes of the patterns
--   Tree              == par v and letter v: the string of v is that of its parent and the letter
--   Fails             == failure v: the node of the longest proper ending of v's string
-- Different numbers have different strings, and a number is lower if the string is. So a node's parent and failure have lower numbers,
-- and parents, and the letters of siblings, ascend with their children.
use mathlib.Core.Path.{◌≡◌, refl, sym, ap, ap₂, subst, subst₂, ◌∙◌}
use mathlib.Core.Bool.{true, false, false≢true}
use mathlib.Core.Logic.{◌⊎◌, inl, inr}
use mathlib.Core.List.{List, [], ◌∷◌, ◌++◌}
use Prim.Native.Nat.{ℕ, ◌≤◌, ◌<◌}
use native.Mathlib.Decide.{dec_lt, ℕ_discrete}
use native.Mathlib.Omega.{arith}
use lib.Dec.{eqb}
use lib.ListN.{length, get_or, take, length-append}
use borrow.Author.Tests.{eqb-true, eq-eqb, ltb-true}
use Rattle.words.specs.Words.{same, begins, before}
use Rattle.words.proofs.Tests.{by_test, same_test}
use Rattle.words.proofs.Members.{In, Asc, Less}
use Rattle.words.proofs.Orders.{up, lex_first, lex_then, lex_cases, same-is, same_at}
use Rattle.words.proofs.Strings.{begins-take, begins_prefix}
use Rattle.words.proofs.Picks.{in_get_or, asc_get_or, asc_differ}
use Rattle.matching.specs.Moves.{begins_some}
use Rattle.matching.proofs.States.{fail, longest_length}
use Rattle.matching.proofs.Numbering.{lower, lower_irr, lower_tr, lower_shorter}

abbrev pub str : List (List ℕ) → ℕ → List ℕ
str ns v = get_or ns v []

abbrev pub Num : List (List ℕ) → ℕ → Type 0
Num ns v = (1 ≤ v) × (v < length ns)

pub record Numbered (ps ns : List (List ℕ)) : Type 0 where
  pub root : str ns 0 ≡ []
  pub asc : Asc (Less lower) ns
  pub node : (v : ℕ) → Num ns v → (1 ≤ length (str ns v)) × (begins_some (str ns v) ps ≡ true)
  pub all : (w : List ℕ) → 1 ≤ length w → begins_some w ps ≡ true → In w ns

pub record Tree (ns : List (List ℕ)) (par letter : ℕ → ℕ) : Type 0 where
  pub par_in : (v : ℕ) → Num ns v → par v < length ns
  pub par_is : (v : ℕ) → Num ns v → str ns v ≡ str ns (par v) ++ (letter v ∷ [])

pub record Fails (ps ns : List (List ℕ)) (failure : ℕ → ℕ) : Type 0 where
  pub fail_in : (v : ℕ) → Num ns v → failure v < length ns
  pub fail_is : (v : ℕ) → Num ns v → str ns (failure v) ≡ fail ps (str ns v)

-- the last letters of two strings of one length
before_last : (x y : List ℕ) (c e : ℕ) → length x ≡ length y → before (x ++ (c ∷ [])) (y ++ (e ∷ [])) ≡ true
    → (before x y ≡ true) ⊎ ((x ≡ y) × (c < e))
before_last [] [] c e l h =
    elim (lex_cases up c e false h) [ inl k ↦ inr (refl, ltb-true c e k) | inr k ↦ absurd (false≢true k.1) ]
before_last [] (b ∷ y) c e l h = absurd (omega arith)
before_last (a ∷ x) [] c e l h = absurd (omega arith)
before_last (a ∷ x) (b ∷ y) c e l h =
    elim (lex_cases up a b (before (x ++ (c ∷ [])) (y ++ (e ∷ []))) h) [
      | inl k ↦ inl (lex_first up a b (before x y) k)
      | inr k ↦ elim (before_last x y c e (omega arith) k.1) [
        | inl q ↦ inl (lex_then up a b (before x y) k.0 q)
        | inr q ↦ inr (ap₂ ◌∷◌ k.0 q.0, q.1)
      ]
    ]

pub lower_last : (x y : List ℕ) (c e : ℕ) → Less lower (x ++ (c ∷ [])) (y ++ (e ∷ [])) → Less lower x y ⊎ ((x ≡ y) × (c < e))
lower_last x y c e h =
    let m = length-append x (c ∷ []) in
    let n = length-append y (e ∷ []) in
    elim (lex_cases up (length (x ++ (c ∷ []))) (length (y ++ (e ∷ []))) (before (x ++ (c ∷ [])) (y ++ (e ∷ []))) h) [
      | inl k ↦ inl (lower_shorter x y (omega (arith, ltb-true)))
      | inr k ↦
          let l : length x ≡ length y = omega (arith, k.0) in
          elim (before_last x y c e l k.1) [ inl q ↦ inl (lex_then up (length x) (length y) (before x y) l q) | inr q ↦ inr q ]
    ]

pub snoc_same : (x y : List ℕ) (c e : ℕ) → x ++ (c ∷ []) ≡ y ++ (e ∷ []) → (x ≡ y) × (c ≡ e)
snoc_same [] [] c e h = (refl, cc)
snoc_same [] (b ∷ y) c e h = absurd (omega (arith, ap length h, length-append y (e ∷ [])))
snoc_same (a ∷ x) [] c e h = absurd (omega (arith, ap length h, length-append x (c ∷ [])))
snoc_same (a ∷ x) (b ∷ y) c e h =
    let p : a ≡ b = cc in
    let q : x ++ (c ∷ []) ≡ y ++ (e ∷ []) = cc in
    let r = snoc_same x y c e q in
    (ap₂ ◌∷◌ p r.0, r.1)

pub fail_shorter : (ps : List (List ℕ)) (w : List ℕ) → 1 ≤ length w → length (fail ps w) < length w
fail_shorter ps [] h = absurd (omega arith)
fail_shorter ps (a ∷ w) h = omega (arith, longest_length ps w)

module _ (ps ns : List (List ℕ)) (N : Numbered ps ns) where
  pub str_one : (u v : ℕ) → u < length ns → v < length ns → str ns u ≡ str ns v → u ≡ v
  str_one u v = asc_differ [] (Less lower) lower_irr ns u v N.asc

  pub str_same : (u v : ℕ) → u < length ns → v < length ns → same (str ns u) (str ns v) ≡ eqb u v
  str_same u v h l =
      same_test (same (str ns u) (str ns v)) (eqb u v)
      (λ e. eq-eqb u v (str_one u v h l (same-is (str ns u) (str ns v) e)))
      (λ e. rw (eqb-true u v e) (same_at (str ns v)))

  pub number : (w : List ℕ) → 1 ≤ length w → begins_some w ps ≡ true → (v : ℕ) × Num ns v × (str ns v ≡ w)
  number w h b =
      let (v, l, e) = in_get_or [] (N.all w h b) in
      let k : 1 ≤ v =
      elim (ℕ_discrete v 0) [ yes z ↦ absurd (omega (arith, ap length (sym e ∙ ap (str ns) z ∙ N.root))) | no ne ↦ omega arith ] in
      (v, (k, l), e)

  pub str_lower : (u v : ℕ) → u < length ns → v < length ns → Less lower (str ns u) (str ns v) → u < v
  str_lower u v h l e =
      elim (dec_lt u v) [
        | yes k ↦ k
        | no k ↦ elim (ℕ_discrete u v) [
          | yes q ↦ absurd (lower_irr (str ns v) (rw q at e))
          | no ne ↦ absurd (lower_irr (str ns u) (lower_tr (str ns u) (str ns v) (str ns u) e (asc_get_or [] (Less lower) ns v u N.asc (omega arith) h)))
        ]
      ]

  -- a string begins with a node: at the node's length it has the node's number
  pub begins-number : (v a : ℕ) (s : List ℕ) → v < length ns → a < length ns → str ns a ≡ take (length (str ns v)) s
      → begins (str ns v) s ≡ eqb a v
  begins-number v a s h l e =
      same_test (begins (str ns v) s) (eqb a v)
      (λ b. eq-eqb a v (str_one a v l h (e ∙ begins-take (str ns v) s b)))
      (λ q. subst (λ t. begins t s ≡ true) (sym e ∙ ap (str ns) (eqb-true a v q)) (begins_prefix (length (str ns v)) s))

  pub fail_below : (v f : ℕ) → Num ns v → f < length ns → str ns f ≡ fail ps (str ns v) → f < v
  fail_below v f n h e = str_lower f v h n.1 (lower_shorter (str ns f) (str ns v) (rw e (fail_shorter ps (str ns v) (N.node v n).0)))

  module _ (par letter : ℕ → ℕ) (T : Tree ns par letter) where
    pub par_below : (v : ℕ) → Num ns v → par v < v
    par_below v n =
        str_lower (par v) v (T.par_in v n) n.1
        (lower_shorter (str ns (par v)) (str ns v) (omega (arith, ap length (T.par_is v n), length-append (str ns (par v)) (letter v ∷ []))))

    -- of two nodes, the parents ascend; of two siblings, the letters
    pub par_last : (u v : ℕ) → Num ns u → Num ns v → u < v → (par u < par v) ⊎ ((par u ≡ par v) × (letter u < letter v))
    par_last u v m n h =
        let low : Less lower (str ns (par u) ++ (letter u ∷ [])) (str ns (par v) ++ (letter v ∷ [])) =
        subst₂ (Less lower) (T.par_is u m) (T.par_is v n) (asc_get_or [] (Less lower) ns u v N.asc h n.1) in
        elim (lower_last (str ns (par u)) (str ns (par v)) (letter u) (letter v) low) [
          | inl k ↦ inl (str_lower (par u) (par v) (T.par_in u m) (T.par_in v n) k)
          | inr k ↦ inr (str_one (par u) (par v) (T.par_in u m) (T.par_in v n) k.0, k.1)
        ]

    pub child_is : (s c u : ℕ) → Num ns u → par u ≡ s → letter u ≡ c → str ns u ≡ str ns s ++ (c ∷ [])
    child_is s c u n e f = T.par_is u n ∙ ap₂ (λ p l. str ns p ++ (l ∷ [])) e f

    pub is_child : (s c u : ℕ) → Num ns u → s < length ns → str ns u ≡ str ns s ++ (c ∷ []) → (par u ≡ s) × (letter u ≡ c)
    is_child s c u n h e =
        let k = snoc_same (str ns (par u)) (str ns s) (letter u) c (sym (T.par_is u n) ∙ e) in
        (str_one (par u) s (T.par_in u n) h k.0, k.1)

    pub some_child : (s c : ℕ) → s < length ns → begins_some (str ns s ++ (c ∷ [])) ps ≡ true → (u : ℕ) × Num ns u × (par u ≡ s) × (letter u ≡ c)
    some_child s c h b =
        let (u, n, e) = number (str ns s ++ (c ∷ [])) (omega (arith, length-append (str ns s) (c ∷ []))) b in
        let (p, l) = is_child s c u n h e in
        (u, n, p, l)

    pub no_child : (s c : ℕ) → s < length ns → ((u : ℕ) → Num ns u → par u ≡ s → letter u ≡ c → ⊥) → begins_some (str ns s ++ (c ∷ [])) ps ≡ false
    no_child s c h f =
        by_test (begins_some (str ns s ++ (c ∷ [])) ps) (λ b. let (u, n, p, l) = some_child s c h b in absurd (f u n p l)) (λ e. e)

    -- v is the first node whose parent is not below q
    pub kids_from : (v q : ℕ) → Num ns v → q ≤ par v → ((w : ℕ) → Num ns w → w < v → par w < q) → (u : ℕ) → Num ns u
        → (u < v → par u < q) × (par u < q → u < v)
    kids_from v q n h f u m =
        let after : (u < v → ⊥) → q ≤ par u =
        λ l. elim (ℕ_discrete u v) [
          | yes e ↦ rw e h
          | no ne ↦ elim (par_last v u n m (omega arith)) [ inl k ↦ omega arith | inr k ↦ omega (arith, k.0) ]
        ] in
        (f u m, (λ k. elim (dec_lt u v) [ yes l ↦ l | no l ↦ absurd (omega (arith, after l)) ]))
