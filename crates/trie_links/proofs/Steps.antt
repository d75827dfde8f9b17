-- One letter read by the automaton: drops along the failure links, and the state after it.
--   Dropping .. v c u d   == from the state of v on the letter c, d drops lead to the state of u, and the step goes on from there
--   dropping-..           == the turns of the loop: started, the letter extends the state, the state is empty, one drop
--   state-..              == the state after a text read letter by letter is its longest ending that begins a pattern
--   moves-..              == the moves of a text, a letter and its drops at a time
-- A step is a chain of drops to the failure of the state, each of a lower number, that ends where the letter extends the state or the state is
-- empty; so each turn of the loop is one turn of the definition.
use mathlib.Core.Path.{◌≡◌, sym, ap, ap₂, ◌∙◌}
use mathlib.Core.Bool.{true, false}
use mathlib.Core.List.{List, [], ◌∷◌, ◌++◌}
use Prim.Native.Nat.{ℕ, suc, ◌+◌, ◌≤◌, ◌<◌}
use native.Mathlib.Omega.{arith}
use lib.ListN.{length, get_or, take, drop}
use lib.Seq.{drop-cons}
use Rattle.tables.specs.Tables.{Got}
use Rattle.matching.specs.Moves.{begins_some, longest_ending, stepped, step_from, step, moves_from}
use Rattle.matching.specs.Steps.Nodes.{string, IsNode, Num}
use Rattle.matching.proofs.States.{fail, step_hit, step-stop, step-drop, step_enough, longest_length, longest_next}
use Rattle.matching.proofs.NodeLaws.{node_root, is_root, node_some, node_fails}
use Rattle.layout.specs.Layout.{FAIL}
use Rattle.layout.specs.Tables.{Child}
use Rattle.layout.specs.Numbered.{patterns_in, Numbered, Automaton}
use Rattle.trie_links.specs.Links.{StepIs, CanStep}

-- one drop of a state with a letter
step_fall : (ps : List (List ℕ)) (x : List ℕ) (c d : ℕ) → 1 ≤ length x → begins_some (x ++ (c ∷ [])) ps ≡ false
    → step_from (suc (length x)) ps x c d ≡ step_from (suc (length (fail ps x))) ps (fail ps x) c (suc d)
step_fall ps [] c d h e = absurd (omega arith)
step_fall ps (a ∷ x) c d h e =
    let l = longest_length ps x in
    step-drop ps (suc (length x)) a x c d e
    ∙ step_enough ps (suc (length x)) (suc (length (longest_ending x ps))) (longest_ending x ps) c (suc d) (omega arith) (omega arith)

pub record Dropping (s es : List ℕ) (n nodes : ℕ) (w : List ℕ) (v c u d : ℕ) : Type 0 where
  pub can : CanStep s es n nodes w v
  pub low : u + d ≤ v
  pub goes : step (patterns_in s es n w) (string (patterns_in s es n w) v) c
      ≡ step_from (suc (length (string (patterns_in s es n w) u))) (patterns_in s es n w) (string (patterns_in s es n w) u) c d

module _ {s es : List ℕ} {n nodes : ℕ} {w : List ℕ} {v c u d : ℕ} (D : Dropping s es n nodes w v c u d) where
  abbrev ps : List (List ℕ)
  ps = patterns_in s es n w

  reached : {r : ℕ} {x : List ℕ} → step ps (string ps v) c ≡ stepped x d → IsNode ps r x → StepIs ps v c r d
  reached e m = record { state = record { inside = m.inside; is = m.is ∙ sym (ap (λ y. y.state) e) }; drops = sym (ap (λ y. y.drops) e) }

  dropping_inside : u ≤ nodes
  dropping_inside = omega (arith, D.low, D.can.node)

  pub dropping_extends : {r : ℕ} → Child ps u c r → (r ≡ 0 → ⊥) → StepIs ps v c r d
  dropping_extends {r} k h =
      let m = k.node h in
      let b : begins_some (string ps u ++ (c ∷ [])) ps ≡ true = rw m.is at (node_some ps r (record { some = omega arith; inside = m.inside })).1 in
      reached (D.goes ∙ step_hit ps (length (string ps u)) (string ps u) c d b) m

  pub dropping_ends : {r : ℕ} → Child ps u c r → r ≡ 0 → u ≡ 0 → StepIs ps v c 0 d
  dropping_ends k h z =
      let e : string ps u ≡ [] = ap (string ps) z ∙ node_root ps in
      let g : step ps (string ps v) c ≡ step_from 1 ps [] c d = D.goes ∙ ap (λ x. step_from (suc (length x)) ps x c d) e in
      reached (g ∙ step-stop ps 0 c d (rw e at (k.none h))) (is_root ps)

  module _ {f : ℕ} (z : u ≡ 0 → ⊥) (g : Got w FAIL u f) where
    here : Num ps u
    here = record { some = omega arith; inside = omega (arith, dropping_inside, D.can.branched.numbered.all_nodes) }

    link : IsNode ps f (fail ps (string ps u))
    link = rw g.is (D.can.links u here (omega (arith, D.low)))

    pub dropping_falls : f < u
    dropping_falls = node_fails ps u here link

    pub dropping_more : {r : ℕ} (d' : ℕ) → Child ps u c r → r ≡ 0 → d' ≡ d + 1 → Dropping s es n nodes w v c f d'
    dropping_more d' k h e =
        let q : d' ≡ suc d = omega arith in
        record {
          can = D.can;
          low = omega (arith, D.low, dropping_falls);
          goes = rw (link.is, q) (D.goes ∙ step_fall ps (string ps u) c d (node_some ps u here).0 (k.none h));
        }

-- where all links are known a step is made from any node
pub automaton_steps : {s es : List ℕ} {n nodes : ℕ} {w : List ℕ} (v : ℕ) → Automaton s es n nodes w → v ≤ nodes → CanStep s es n nodes w v
automaton_steps v A h = record { branched = A.branched; near = A.near; node = h; links = λ x m l. A.fails x m }

pub node_within : {s es : List ℕ} {n nodes : ℕ} {w : List ℕ} {u : ℕ} {x : List ℕ} → Numbered s es n nodes w → IsNode (patterns_in s es n w) u x → u ≤ nodes
node_within N m = omega (arith, m.inside, N.all_nodes)

-- the state after a text, letter by letter
pub state_none : (ps : List (List ℕ)) (t : List ℕ) → IsNode ps 0 (longest_ending (take 0 t) ps)
state_none ps t = is_root ps

module _ {ps : List (List ℕ)} {v c u d : ℕ} (t : List ℕ) (e e' : ℕ) (h : e < length t) (b : c ≡ get_or t e 0) (q : e' ≡ e + 1) (i : StepIs ps v c u d) where
  pub state_next : IsNode ps v (longest_ending (take e t) ps) → IsNode ps u (longest_ending (take e' t) ps)
  state_next m =
      let r : e' ≡ suc e = omega arith in
      record { inside = i.state.inside; is = rw r (i.state.is ∙ ap₂ (λ x y. (step ps x y).state) m.is b ∙ sym (longest_next ps t e h)) }

  pub moves_next : (k : ℕ) → moves_from ps (string ps v) (drop e t) k ≡ moves_from ps (string ps u) (drop e' t) (k + suc d)
  moves_next k =
      let r : e' ≡ suc e = omega arith in
      rw (r, drop-cons t e 0 h, ← b) (ap₂ (λ x y. moves_from ps x (drop (suc e) t) (k + suc y)) (sym i.state.is) (sym i.drops))

pub moves_least : (ps : List (List ℕ)) (x t : List ℕ) (k : ℕ) → k ≤ moves_from ps x t k
moves_least ps x [] k = omega arith
moves_least ps x (b ∷ t) k = let y = step ps x b in omega (arith, moves_least ps y.state t (k + suc y.drops))
