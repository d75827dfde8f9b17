-- The walk over all nodes: over a list of strings that has every beginning.
--   begun ss K x      == x begins a slip of K
--   Nodes ss K ws     == ws ascends by `sooner`, has no empty string, and has every beginning of a slip of K
-- A string that begins no slip of K changes nothing when it is visited. What is left of ws without those, and without the strings that do
-- not count, is the list of the walk: both ascend and have the same members.
use mathlib.Core.Path.{◌≡◌, refl, sym, ap, ◌∙◌}
use mathlib.Core.Bool.{Bool, true, false}
use mathlib.Core.List.Memᴰ
use mathlib.Core.List.{List, [], ◌∷◌, ◌++◌}
use mathlib.Core.Logic.{inl, inr}
use Prim.Native.Nat.{ℕ, zero, suc, ◌≤◌}
use native.Mathlib.Decide.{ℕ_discrete}
use native.Mathlib.Omega.{arith}
use lib.ListN.{length, take}
use lib.Seq.{length-take-le}
use Rattle.words.specs.Lists.{those, any, in_order}
use Rattle.words.specs.Words.{begins, before}
use Rattle.words.proofs.Tests.{tell, not_both, neither}
use Rattle.words.proofs.Members.{In, by_in, Asc, Less, each_in, in_each, those-yes, those_no, those_in}
use Rattle.words.proofs.Members.{in_those, in_any, any_in, asc_those, asc_one, in_order_sorts}
use Rattle.words.proofs.Orders.{down, strings, lex_irr, lex_tr, lex_con}
use Rattle.words.proofs.Strings.{begins-take, begins_prefix, begins-length}
use Rattle.trays.specs.Slips.{slip}
use Rattle.greedy.specs.Joins.{Join}
use Rattle.greedy.specs.Walk.{prefixes_to, beginnings, sooner, visit, walk_from, walk_for}

pub sooner_irr : (x : List ℕ) → Less sooner x x → ⊥
sooner_irr x h = not_both (sooner x x) h (lex_irr down (length x) (before x x) (strings.irr x))

pub sooner_tr : (x y z : List ℕ) → Less sooner x y → Less sooner y z → Less sooner x z
sooner_tr x y z = lex_tr down (length x) (length y) (length z) (before x y) (before y z) (before x z) (strings.tr x y z)

pub sooner_con : (x y : List ℕ) → sooner x y ≡ false → sooner y x ≡ false → x ≡ y
sooner_con x y e f = (lex_con down (length x) (length y) (before x y) (before y x) (strings.con x y) e f).1

-- the beginnings of a slip, and of the slips of K
pub prefix_in : (m n : ℕ) (s : List ℕ) → 1 ≤ m → m ≤ n → In (take m s) (prefixes_to n s)
prefix_in m zero s h l = absurd (omega arith)
prefix_in m (suc n) s h l =
    elim (ℕ_discrete m (suc n)) [ yes e ↦ Memᴰ.head (ap (λ i. take i s) e) | no ne ↦ Memᴰ.tail (prefix_in m n s h (omega arith)) ]

in_prefixes : (n : ℕ) (s w : List ℕ) → n ≤ length s → In w (prefixes_to n s) → (1 ≤ length w) × (begins w s ≡ true)
in_prefixes zero s w h m = absurd (Memᴰ.not-nil m)
in_prefixes (suc n) s w h m =
    by_in m (λ e. rw e (omega (arith, length-take-le (suc n) s h), begins_prefix (suc n) s)) (λ i. in_prefixes n s w (omega arith) i)

module _ (counts : List ℕ → Bool) (ss : List (List ℕ)) (K : List ℕ) where
  pub beginnings_in : (w : List ℕ) {k : ℕ} → In k K → 1 ≤ length w → begins w (slip ss k) ≡ true → counts w ≡ true → In w (beginnings counts ss K)
  beginnings_in w {k} m h b c =
      let s = slip ss k in
      let p = prefix_in (length w) (length s) s h (begins-length w s b) in
      each_in (λ i. those counts (prefixes_to (length (slip ss i)) (slip ss i))) m (those_in counts (rw (begins-take w s b) at p) c)

  pub in_beginnings : (w : List ℕ) → In w (beginnings counts ss K)
      → (1 ≤ length w) × (counts w ≡ true) × ((k : ℕ) × In k K × (begins w (slip ss k) ≡ true))
  in_beginnings w m =
      let (k, i, n) = in_each (λ i. those counts (prefixes_to (length (slip ss i)) (slip ss i))) K m in
      let (p, c) = in_those counts (prefixes_to (length (slip ss k)) (slip ss k)) n in
      let (h, b) = in_prefixes (length (slip ss k)) (slip ss k) w (omega arith) p in
      (h, c, (k, i, b))

abbrev pub begun : List (List ℕ) → List ℕ → List ℕ → Bool
begun ss K x = any (λ k. begins x (slip ss k)) K

module _ (ss : List (List ℕ)) (K : List ℕ) where
  pub visit_idle : (x : List ℕ) (rs : List ℕ) (js : List Join) → begun ss rs x ≡ false → visit ss K x rs js ≡ js
  visit_idle x [] js h = refl
  visit_idle x (r ∷ rs) js h =
      let (n, t) = neither (begins x (slip ss r)) (begun ss rs x) h in
      rw n (visit_idle x rs js t)

  pub walk_begun : (ws : List (List ℕ)) (js : List Join) → walk_from ss K (those (begun ss K) ws) js ≡ walk_from ss K ws js
  walk_begun [] js = refl
  walk_begun (w ∷ ws) js =
      elim (tell (begun ss K w)) [
        | inl y ↦ rw (those-yes (begun ss K) w ws y) (walk_begun ws (visit ss K w K js))
        | inr n ↦ rw (those_no (begun ss K) w ws n, visit_idle w K js n) (walk_begun ws js)
      ]

  pub walk_append : (xs ys : List (List ℕ)) (js : List Join) → walk_from ss K (xs ++ ys) js ≡ walk_from ss K ys (walk_from ss K xs js)
  walk_append [] ys js = refl
  walk_append (x ∷ xs) ys js = walk_append xs ys (visit ss K x K js)

-- strings over which the walk may go
pub record Nodes (ss : List (List ℕ)) (K : List ℕ) (ws : List (List ℕ)) : Type 0 where
  pub asc : Asc (Less sooner) ws
  pub some : (w : List ℕ) → In w ws → 1 ≤ length w
  pub all : (w : List ℕ) (k : ℕ) → In k K → 1 ≤ length w → begins w (slip ss k) ≡ true → In w ws

module _ (counts : List ℕ → Bool) (ss : List (List ℕ)) (K : List ℕ) (ws : List (List ℕ)) (N : Nodes ss K ws) where
  pub nodes_visited : those (begun ss K) (those counts ws) ≡ in_order sooner (beginnings counts ss K)
  nodes_visited =
      let S = in_order_sorts sooner sooner_tr sooner_con (beginnings counts ss K) in
      asc_one (Less sooner) sooner_irr sooner_tr (those (begun ss K) (those counts ws)) (in_order sooner (beginnings counts ss K))
      (asc_those (Less sooner) (begun ss K) (those counts ws) (asc_those (Less sooner) counts ws N.asc))
      S.asc
      (λ w m.
      let (t, b) = in_those (begun ss K) (those counts ws) m in
      let (n, c) = in_those counts ws t in
      let (k, i, e) = any_in (λ k. begins w (slip ss k)) K b in
      S.into w (beginnings_in counts ss K w i (N.some w n) e c))
      (λ w m.
      let (h, c, (k, i, e)) = in_beginnings counts ss K w (S.back w m) in
      those_in (begun ss K) (those_in counts (N.all w k i h e) c) (in_any (λ k. begins w (slip ss k)) i e))

  pub walk_nodes : walk_from ss K (those counts ws) [] ≡ walk_for counts ss K
  walk_nodes = sym (walk_begun ss K (those counts ws) []) ∙ ap (λ l. walk_from ss K l []) nodes_visited
