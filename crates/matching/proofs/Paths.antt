-- Steps, failures, occurrences and a visit's two lists, by node numbers.
--   path failure n u   == the nodes u, failure u, .. up to the root, which is left out; n bounds their number
--   Prefixes           == at i d is the node of the prefix of d letters of slip i, for each member i
-- A node ends the string of u exactly if it is on the path of u. So the slips that end a text are those of the nodes on the path of its state,
-- in the order of the path, and a slip properly ends with the nodes on the path of its own node's failure.
use mathlib.Core.Path.{◌≡◌, refl, sym, ap, ap₂, ◌∙◌}
use mathlib.Core.Bool.{true, false, ◌&&◌, ◌||◌}
use mathlib.Core.List.{List, [], ◌∷◌, ◌++◌, map}
use Prim.Native.Nat.{ℕ, zero, suc, ◌≤◌, ◌<◌}
use native.Mathlib.Decide.{ℕ_discrete}
use native.Mathlib.Omega.{arith}
use lib.Dec.{eqb, leb}
use lib.ListN.{length, take}
use borrow.Author.Tests.{eq-eqb, ne_eqb, leb-false, leb-true, lt-leb}
use Rattle.words.specs.Lists.{each, those, any}
use Rattle.words.specs.Words.{same, begins, ends, ends_properly}
use Rattle.words.proofs.Tests.{by_test}
use Rattle.words.proofs.Members.{In, Asc}
use Rattle.words.proofs.Strings.{begins-refl, begins-length}
use Rattle.words.proofs.Picks.{those-same}
use Rattle.trays.specs.Slips.{slip}
use Rattle.matching.specs.Moves.{begins_some, longest_ending}
use Rattle.matching.proofs.Endings.{slip-some}
use Rattle.matching.proofs.States.{fail, after, longest_whole, longest_skip, longest_letter, longest_drop, moves-drop}
use Rattle.matching.proofs.Finds.{ending_of, owners_of, ends_fail, ends_properly_fail, ending_fail, ending_none}
use Rattle.matching.proofs.Numbered.{str, Num, Numbered, Tree, Fails, str_same, begins-number, fail_below}
use Rattle.matching.proofs.Marks.{Lasts}

-- by the failure of a string with a letter
module _ (ps : List (List ℕ)) where
  pub fail_snoc : (w : List ℕ) (c : ℕ) → 1 ≤ length w → fail ps (w ++ (c ∷ [])) ≡ longest_ending (fail ps w ++ (c ∷ [])) ps
  fail_snoc [] c h = absurd (omega arith)
  fail_snoc (a ∷ w) c h = longest_letter ps w c

  pub longest_fall : (s : List ℕ) (c : ℕ) → 1 ≤ length s → begins_some (s ++ (c ∷ [])) ps ≡ false
      → longest_ending (s ++ (c ∷ [])) ps ≡ longest_ending (fail ps s ++ (c ∷ [])) ps
  longest_fall [] c h e = absurd (omega arith)
  longest_fall (a ∷ s) c h e = longest_drop ps a s c e

  pub moves_fall : (s : List ℕ) (b : ℕ) (t : List ℕ) (n : ℕ) → 1 ≤ length s → begins_some (s ++ (b ∷ [])) ps ≡ false
      → after ps (suc (length s)) s b t n ≡ after ps (suc (length (fail ps s))) (fail ps s) b t (suc n)
  moves_fall [] b t n h e = absurd (omega arith)
  moves_fall (a ∷ s) b t n h e = moves-drop ps (suc (length s)) a s b t n (omega arith) e

  ends_fall : (x w : List ℕ) → begins_some x ps ≡ true → 1 ≤ length w → ends x w ≡ same x w || ends x (fail ps w)
  ends_fall x [] b h = absurd (omega arith)
  ends_fall x (a ∷ w) b h = ends_fail ps x a w b

  ends_properly_fall : (x w : List ℕ) → begins_some x ps ≡ true → 1 ≤ length w → ends_properly x w ≡ ends x (fail ps w)
  ends_properly_fall x [] b h = absurd (omega arith)
  ends_properly_fall x (a ∷ w) b h = ends_properly_fail ps x a w b

abbrev pub path : (ℕ → ℕ) → ℕ → ℕ → List ℕ
path failure zero u = []
path failure (suc n) u = elim (eqb u 0) [ true ↦ [] | false ↦ u ∷ path failure n (failure u) ]

path_root : (failure : ℕ → ℕ) (n u : ℕ) → u ≡ 0 → path failure n u ≡ []
path_root failure zero u e = refl
path_root failure (suc n) u e = rw (eq-eqb u 0 e, path)

path_node : (failure : ℕ → ℕ) (n u : ℕ) → 1 ≤ u → path failure (suc n) u ≡ u ∷ path failure n (failure u)
path_node failure n u h = rw (ne_eqb u 0 (λ e. omega arith), path)

module _ (ps ns : List (List ℕ)) (N : Numbered ps ns) where
  -- one step from the node s on the letter c
  pub step_child : (u s c : ℕ) → Num ns u → str ns u ≡ str ns s ++ (c ∷ []) → longest_ending (str ns s ++ (c ∷ [])) ps ≡ str ns u
  step_child u s c n e = rw (← e) (longest_whole ps (str ns u) (N.node u n).1)

  pub step_root : (c : ℕ) → begins_some (str ns 0 ++ (c ∷ [])) ps ≡ false → longest_ending (str ns 0 ++ (c ∷ [])) ps ≡ []
  step_root c e =
      ap (λ x. longest_ending (x ++ (c ∷ [])) ps) N.root ∙ longest_skip ps c [] (rw N.root at e)

  pub step_fall : (s f c : ℕ) → Num ns s → str ns f ≡ fail ps (str ns s) → begins_some (str ns s ++ (c ∷ [])) ps ≡ false
      → longest_ending (str ns s ++ (c ∷ [])) ps ≡ longest_ending (str ns f ++ (c ∷ [])) ps
  step_fall s f c n e b =
      longest_fall ps (str ns s) c (N.node s n).0 b ∙ ap (λ x. longest_ending (x ++ (c ∷ [])) ps) (sym e)

  module _ (par letter : ℕ → ℕ) (T : Tree ns par letter) where
    pub fail_root : (v : ℕ) → Num ns v → par v ≡ 0 → fail ps (str ns v) ≡ []
    fail_root v n e =
        ap (fail ps) (T.par_is v n ∙ ap (λ u. str ns u ++ (letter v ∷ [])) e ∙ ap (λ x. x ++ (letter v ∷ [])) N.root)

    pub fail_from : (v f : ℕ) → Num ns v → 1 ≤ par v → str ns f ≡ fail ps (str ns (par v))
        → fail ps (str ns v) ≡ longest_ending (str ns f ++ (letter v ∷ [])) ps
    fail_from v f n h e =
        ap (fail ps) (T.par_is v n)
        ∙ fail_snoc ps (str ns (par v)) (letter v) (N.node (par v) (h, T.par_in v n)).0
        ∙ ap (λ x. longest_ending (x ++ (letter v ∷ [])) ps) (sym e)

  pub ends_root : (v : ℕ) → Num ns v → ends (str ns v) (str ns 0) ≡ false
  ends_root v n = ap (ends (str ns v)) N.root ∙ rw (lt-leb (length (str ns v)) 0 (N.node v n).0)

  module _ (failure : ℕ → ℕ) (F : Fails ps ns failure) where
    pub failure_below : (u : ℕ) → Num ns u → failure u < u
    failure_below u n = fail_below ps ns N u (failure u) n (F.fail_in u n) (F.fail_is u n)

    pub ends_next : (u v : ℕ) → Num ns u → Num ns v → ends (str ns v) (str ns u) ≡ eqb v u || ends (str ns v) (str ns (failure u))
    ends_next u v m n =
        ends_fall ps (str ns v) (str ns u) (N.node v n).1 (N.node u m).0
        ∙ ap₂ ◌||◌ (str_same ps ns N v u n.1 m.1) (ap (ends (str ns v)) (sym (F.fail_is u m)))

    pub ends_path : (n u v : ℕ) → u < length ns → u ≤ n → Num ns v → ends (str ns v) (str ns u) ≡ any (eqb v) (path failure n u)
    ends_path zero u v h l m = let e : u ≡ 0 = omega arith in rw e (ends_root v m)
    ends_path (suc n) u v h l m =
        elim (ℕ_discrete u 0) [
          | yes e ↦ rw (path_root failure (suc n) u e, e) (ends_root v m)
          | no ne ↦
              let k : Num ns u = (omega arith, h) in
              rw (path_node failure n u k.0)
              (ends_next u v k m ∙ ap (λ b. eqb v u || b) (ends_path n (failure u) v (F.fail_in u k) (omega (arith, failure_below u k)) m))
        ]

pub record Prefixes (ss : List (List ℕ)) (M : List ℕ) (ns : List (List ℕ)) (at : ℕ → ℕ → ℕ) : Type 0 where
  pub at_in : (i d : ℕ) → In i M → 1 ≤ d → d ≤ length (slip ss i) → at i d < length ns
  pub at_is : (i d : ℕ) → In i M → 1 ≤ d → d ≤ length (slip ss i) → str ns (at i d) ≡ take d (slip ss i)

-- the members' slips
module _ (ss : List (List ℕ)) (M : List ℕ) (ns : List (List ℕ)) (N : Numbered (map (slip ss) M) ns) where
  abbrev ps : List (List ℕ)
  ps = map (slip ss) M

  -- a member begins with the node v: at v's length it has the number v
  pub starts_at : (at : ℕ → ℕ → ℕ) → Prefixes ss M ns at → (r v : ℕ) → In r M → Num ns v
      → begins (str ns v) (slip ss r) ≡ leb (length (str ns v)) (length (slip ss r)) && eqb (at r (length (str ns v))) v
  starts_at at A r v m n =
      let d = length (str ns v) in
      let s = slip ss r in
      by_test (leb d (length s))
      (λ e.
      let l = leb-true d (length s) e in
      let k = (N.node v n).0 in
      rw e (begins-number ps ns N v (at r d) s n.1 (A.at_in r d m k l) (A.at_is r d m k l)))
      (λ e. rw e (by_test (begins (str ns v) s) (λ b. absurd (omega (arith, begins-length (str ns v) s b, leb-false d (length s) e))) (λ b. b)))

  ending_fall : (w : List ℕ) → 1 ≤ length w → Asc ◌<◌ M → ending_of ss M w ≡ owners_of ss M w ++ ending_of ss M (fail ps w)
  ending_fall [] h asc = absurd (omega arith)
  ending_fall (a ∷ w) h asc = ending_fail ss M ps (λ k m. slip-some ss M (slip ss k) m (begins-refl (slip ss k))) a w asc

  module _ (failure last : ℕ → ℕ) (F : Fails ps ns failure) (L : Lasts ss M ns last) where
    pub last_some : (i : ℕ) → In i M → 1 ≤ length (slip ss i) → 1 ≤ last i
    last_some i m h =
        elim (ℕ_discrete (last i) 0) [
          | yes z ↦ absurd (omega (arith, ap length (sym (L.last_is i m) ∙ ap (str ns) z ∙ N.root)))
          | no ne ↦ omega arith
        ]

    -- a member properly ends with the node v: v is on the path of its node's failure
    pub ends_at : (l v : ℕ) → In l M → 1 ≤ length (slip ss l) → Num ns v
        → ends_properly (str ns v) (slip ss l) ≡ any (eqb v) (path failure (length ns) (failure (last l)))
    ends_at l v m h n =
        let u = last l in
        let k : Num ns u = (last_some l m h, L.last_in l m) in
        ap (ends_properly (str ns v)) (sym (L.last_is l m))
        ∙ ends_properly_fall ps (str ns v) (str ns u) (N.node v n).1 (N.node u k).0
        ∙ ap (ends (str ns v)) (sym (F.fail_is u k))
        ∙ ends_path ps ns N failure F (length ns) (failure u) v (F.fail_in u k) (omega (arith, F.fail_in u k)) n

    pub owners_at : (v : ℕ) → v < length ns → owners_of ss M (str ns v) ≡ those (λ i. eqb (last i) v) M
    owners_at v h =
        those-same (λ i. same (slip ss i) (str ns v)) (λ i. eqb (last i) v) M
        (λ i m. ap (λ x. same x (str ns v)) (sym (L.last_is i m)) ∙ str_same ps ns N (last i) v (L.last_in i m) h)

    pub ending_at_lem : (v : ℕ) → Num ns v → Asc ◌<◌ M
        → ending_of ss M (str ns v) ≡ those (λ i. eqb (last i) v) M ++ ending_of ss M (str ns (failure v))
    ending_at_lem v n asc =
        ending_fall (str ns v) (N.node v n).0 asc ∙ ap₂ ◌++◌ (owners_at v n.1) (ap (ending_of ss M) (sym (F.fail_is v n)))

    ending_nil : (u : ℕ) → u ≡ 0 → ((k : ℕ) → In k M → 1 ≤ length (slip ss k)) → ending_of ss M (str ns u) ≡ []
    ending_nil u e some = ap (ending_of ss M) (ap (str ns) e ∙ N.root) ∙ ending_none ss M some

    -- what ends a state, node by node along its path
    pub ending_path : (n u : ℕ) → u < length ns → u ≤ n → Asc ◌<◌ M → ((k : ℕ) → In k M → 1 ≤ length (slip ss k))
        → ending_of ss M (str ns u) ≡ each (λ v. those (λ i. eqb (last i) v) M) (path failure n u)
    ending_path zero u h l asc some = let e : u ≡ 0 = omega arith in ending_nil u e some
    ending_path (suc n) u h l asc some =
        elim (ℕ_discrete u 0) [
          | yes e ↦ rw (path_root failure (suc n) u e) (ending_nil u e some)
          | no ne ↦
              let k : Num ns u = (omega arith, h) in
              rw (path_node failure n u k.0)
              (ending_at_lem u k asc
              ∙ ap (λ l. those (λ i. eqb (last i) u) M ++ l)
              (ending_path n (failure u) (F.fail_in u k) (omega (arith, failure_below ps ns N failure F u k)) asc some))
        ]
