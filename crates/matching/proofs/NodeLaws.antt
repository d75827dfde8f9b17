-- The nodes of the patterns, as `specs/steps/Nodes.antt` defines them, are a numbering: what `Numbered` says of any numbering holds of them.
--   nodes_numbered   == the nodes ascend by `lower` and have exactly the empty string and the prefixes of the patterns
--   node_root, is_root == node 0 is the empty string
--   node_some        == a node with a number from 1 on has a letter and begins a pattern
--   node_of          == a string with a letter that begins a pattern is a node
--   node_one         == one string has one number
--   node_lower       == a node whose string is lower has a lower number
--   node_fails       == the failure of a node has a lower number
-- A prefix of a pattern is its first d letters for some d from 1 on; the list of these, in order and each once, is the list of nodes.
use mathlib.Core.Path.{◌≡◌, refl, sym, ◌∙◌}
use mathlib.Core.Bool.{true, false}
use mathlib.Core.List.Memᴰ
use mathlib.Core.List.{List, [], ◌∷◌, map}
use Prim.Native.Nat.{ℕ, zero, suc, ◌≤◌, ◌<◌}
use native.Mathlib.Omega.{arith}
use lib.ListN.{length, get_or, take}
use lib.Seq.{length-take-le}
use Rattle.words.specs.Lists.{up_from, in_order}
use Rattle.words.specs.Words.{begins}
use Rattle.words.proofs.Members.{In, Less, Sorts, each_in, in_each, in_any, any_in, in_up_from, up_from_in, in_order_sorts}
use Rattle.words.proofs.Orders.{up, strings, lex_con}
use Rattle.words.proofs.Strings.{begins-take, begins_prefix, begins-length}
use Rattle.words.proofs.Picks.{get_or_in}
use Rattle.matching.specs.Moves.{begins_some}
use Rattle.matching.specs.Steps.Nodes.{lower, prefixes, nodes_of, string, IsNode, Num}
use Rattle.matching.proofs.States.{fail}
use Rattle.matching.proofs.Numbering.{lower_tr, lower_shorter}
use Rattle.matching.proofs.Numbered as Numbered

lower_con : (x y : List ℕ) → lower x y ≡ false → lower y x ≡ false → x ≡ y
lower_con x y h g = (lex_con up (length x) (length y) _ _ (strings.con x y) h g).1

module _ (ps : List (List ℕ)) where
  in_prefixes : (w : List ℕ) → In w (prefixes ps) → (1 ≤ length w) × (begins_some w ps ≡ true)
  in_prefixes w m =
      let (x, i, k) = in_each (λ x. map (λ d. take d x) (up_from 1 (length x))) ps m in
      let (d, j, e) = Memᴰ.of_map (λ d. take d x) (up_from 1 (length x)) k in
      let r = in_up_from 1 (length x) j in
      rw (← e) (omega (arith, length-take-le d x (omega arith)), in_any (begins (take d x)) i (begins_prefix d x))

  prefixes_in : (w : List ℕ) → 1 ≤ length w → begins_some w ps ≡ true → In w (prefixes ps)
  prefixes_in w h b =
      let (x, i, e) = any_in (begins w) ps b in
      let m : In (take (length w) x) (map (λ d. take d x) (up_from 1 (length x))) =
      Memᴰ.map (λ d. take d x) (up_from_in 1 (length x) (length w) h (omega (arith, begins-length w x e))) in
      each_in (λ x. map (λ d. take d x) (up_from 1 (length x))) i (rw (begins-take w x e) at m)

  sorts : Sorts (Less lower) (prefixes ps) (in_order lower (prefixes ps))
  sorts = in_order_sorts lower lower_tr lower_con (prefixes ps)

  pub nodes_numbered : Numbered.Numbered ps (nodes_of ps)
  unfolding nodes_of
  nodes_numbered =
      record {
        root = refl;
        asc = ((λ w m. lower_shorter [] w (in_prefixes w (sorts.back w m)).0), sorts.asc);
        node = λ v n. node v n;
        all = λ w h b. Memᴰ.tail (sorts.into w (prefixes_in w h b));
      }
    where
      node : (v : ℕ) → Numbered.Num ([] ∷ in_order lower (prefixes ps)) v →
          (1 ≤ length (get_or ([] ∷ in_order lower (prefixes ps)) v [])) × (begins_some (get_or ([] ∷ in_order lower (prefixes ps)) v []) ps ≡ true)
      node zero n = absurd (omega arith)
      node (suc v) n = let l = in_order lower (prefixes ps) in in_prefixes (get_or l v []) (sorts.back _ (get_or_in [] l v (omega arith)))

  pub nodes_some : 0 < length (nodes_of ps)
  unfolding nodes_of
  nodes_some = omega arith

  pub node_root : string ps 0 ≡ []
  node_root = nodes_numbered.root

  pub is_root : IsNode ps 0 []
  is_root = record { inside = nodes_some; is = node_root }

  pub node_some : (v : ℕ) → Num ps v → (1 ≤ length (string ps v)) × (begins_some (string ps v) ps ≡ true)
  node_some v n = nodes_numbered.node v (n.some, n.inside)

  pub node_of : (x : List ℕ) → 1 ≤ length x → begins_some x ps ≡ true → (v : ℕ) × Num ps v × (string ps v ≡ x)
  node_of x h b =
      let (v, n, e) = Numbered.number ps (nodes_of ps) nodes_numbered x h b in
      (v, record { some = n.0; inside = n.1 }, e)

  pub node_one : {x : List ℕ} {u v : ℕ} → IsNode ps u x → IsNode ps v x → u ≡ v
  node_one {u = u} {v = v} m n = Numbered.str_one ps (nodes_of ps) nodes_numbered u v m.inside n.inside (m.is ∙ sym n.is)

  pub node_lower : (u v : ℕ) → u < length (nodes_of ps) → v < length (nodes_of ps) → lower (string ps u) (string ps v) ≡ true → u < v
  node_lower u v = Numbered.str_lower ps (nodes_of ps) nodes_numbered u v

  pub node_fails : {f : ℕ} (v : ℕ) → Num ps v → IsNode ps f (fail ps (string ps v)) → f < v
  node_fails {f} v n m = Numbered.fail_below ps (nodes_of ps) nodes_numbered v f (n.some, n.inside) m.inside m.is
