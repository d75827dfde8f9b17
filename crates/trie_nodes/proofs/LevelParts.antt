-- The levels one after another: where the strings of each length stand among the nodes.
--   Split c D     == the nodes of up to D letters are those of up to c, then longer ones
--   levels_grow   == the nodes of up to D letters are at least as many as those of up to c
--   node_at-fits   == the number of a prefix is that of a node
--   levels_are    == the table LEVEL, if each length's cell is the number behind the shorter nodes
use mathlib.Core.Path.{◌≡◌, refl, sym, ap, ◌∙◌}
use mathlib.Core.Logic.{inl, inr}
use mathlib.Core.List.Memᴰ
use mathlib.Core.List.{List, [], ◌∷◌, ◌++◌, append-nil, append_assoc}
use Prim.Native.Nat.{ℕ, zero, suc, ◌+◌, ◌-◌, ◌≤◌, ◌<◌}
use native.Mathlib.Decide.{dec_lt, ℕ_discrete}
use native.Mathlib.Omega.{arith}
use lib.ListN.{length, get_or, length-append, get_or-append}
use lib.Seq.{get_or-append-add}
use Rattle.words.proofs.Members.{In}
use Rattle.words.proofs.Picks.{get_or_in}
use Rattle.matching.specs.Steps.Nodes.{nodes_of, string, Num}
use Rattle.matching.proofs.Levels.{level, level-length}
use Rattle.matching.proofs.Ranks.{rank_fits}
use Rattle.matching.proofs.Numbering.{levels_up, node_at, in_levels_up}
use Rattle.layout.specs.Tables.{LevelIs}
use Rattle.trie_nodes.specs.Steps.Stages.{LevelDone}

module _ (zs : List (List ℕ)) where
  record Split (c D : ℕ) : Type 0 where
    rest : List (List ℕ)
    is : levels_up D zs ≡ levels_up c zs ++ rest
    longer : (w : List ℕ) → In w rest → c < length w

  split : (c D : ℕ) → c ≤ D → Split c D
  split c zero h =
      let e : c ≡ 0 = omega arith in
      record { rest = []; is = rw e; longer = λ w m. absurd (Memᴰ.not-nil m) }
  split c (suc D) h =
      elim (ℕ_discrete c (suc D)) [
        | yes e ↦ record { rest = []; is = rw e (sym (append-nil (levels_up (suc D) zs))); longer = λ w m. absurd (Memᴰ.not-nil m) }
        | no ne ↦
            let r = split c D (omega arith) in
            let last = level (suc D) [] zs in
            record {
              rest = r.rest ++ last;
              is = ap (λ l. l ++ last) r.is ∙ append_assoc (levels_up c zs) r.rest last;
              longer =
                  λ w m. elim (Memᴰ.append_cases r.rest m) [
                    | inl i ↦ r.longer w i
                    | inr i ↦ omega (arith, level-length (suc D) [] zs w i)
                  ];
            }
      ]

  pub levels_grow : (c D : ℕ) → c ≤ D → length (levels_up c zs) ≤ length (levels_up D zs)
  levels_grow c D h = let r = split c D h in omega (arith, ap length r.is, length-append (levels_up c zs) r.rest)

  levels_low : (c D v : ℕ) → c ≤ D → v < length (levels_up c zs) → length (get_or (levels_up D zs) v []) ≤ c
  levels_low c D v h l =
      let r = split c D h in
      rw (r.is, get_or-append (levels_up c zs) r.rest [] v l)
      (in_levels_up zs c (get_or (levels_up c zs) v []) (get_or_in [] (levels_up c zs) v l)).1

  levels_high : (c D v : ℕ) → c ≤ D → length (levels_up c zs) ≤ v → v < length (levels_up D zs) → c < length (get_or (levels_up D zs) v [])
  levels_high c D v h l b =
      let r = split c D h in
      let j = v - length (levels_up c zs) in
      let e : v ≡ length (levels_up c zs) + j = omega arith in
      let i : j < length r.rest = omega (arith, ap length r.is, length-append (levels_up c zs) r.rest) in
      rw (r.is, e, get_or-append-add (levels_up c zs) r.rest j []) (r.longer (get_or r.rest j []) (get_or_in [] r.rest j i))

  pub node_at-fits : (D c r : ℕ) → c < D → node_at zs c r ≤ length (levels_up D zs)
  node_at-fits D c r h =
      omega (arith, rank_fits (suc c) zs (suc r), levels_grow (suc c) D h, length-append (levels_up c zs) (level (suc c) [] zs))

module _ (ps zs : List (List ℕ)) (D : ℕ) (first : ℕ → ℕ) (is : nodes_of ps ≡ [] ∷ levels_up D zs) (done : LevelDone zs D first) where
  -- a node with a letter, among the levels
  node : (v : ℕ) → Num ps v → (u : ℕ) × (v ≡ suc u) × (u < length (levels_up D zs)) × (string ps v ≡ get_or (levels_up D zs) u [])
  node zero n = absurd (omega (arith, n.some))
  node (suc u) n = (u, refl, omega (arith, n.inside, ap length is), ap (λ ns. get_or ns (suc u) []) is)

  some : (d : ℕ) → 1 ≤ d → d ≤ suc D → (1 ≤ first d) × (first d ≤ length (nodes_of ps))
  some zero h l = absurd (omega arith)
  some (suc d) h l = omega (arith, done d (omega arith), levels_grow zs d D (omega arith), ap length is)

  from : (d v : ℕ) → 1 ≤ d → d ≤ suc D → Num ps v → d ≤ length (string ps v) → first d ≤ v
  from zero v h l n b = absurd (omega arith)
  from (suc d) v h l n b =
      let (u, e, k, q) = node v n in
      elim (dec_lt u (length (levels_up d zs))) [
        | yes i ↦ absurd (omega (arith, levels_low zs d D u (omega arith) i, ap length q))
        | no i ↦ omega (arith, done d (omega arith))
      ]

  back : (d v : ℕ) → 1 ≤ d → d ≤ suc D → Num ps v → first d ≤ v → d ≤ length (string ps v)
  back zero v h l n b = absurd (omega arith)
  back (suc d) v h l n b =
      let (u, e, k, q) = node v n in
      rw q (levels_high zs d D u (omega arith) (omega (arith, done d (omega arith))) k)

  pub levels_are : LevelIs ps first D
  levels_are =
      record {
        some = some;
        from = from;
        back = back;
        all = λ v n. let (u, e, k, q) = node v n in rw q (levels_low zs D D u (omega arith) k);
      }
