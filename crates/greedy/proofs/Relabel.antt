-- Relabelling: slips renumbered in order, with the same letters, give the same joins renumbered and the same legend.
--   Renumbers f ss ss' K  == f is strictly increasing from 0, and slip f i of ss' has the letters of slip i of ss, for i in K
--   relabel f js          == the joins js with f applied to their slips
--   repiece f p           == the piece p with f applied to its slip
--   Both P j, Within K j  == P holds of both slips of the join j; both are in K
--   NAME-relabel          == NAME of what is renumbered is NAME, renumbered
-- A strictly increasing f changes no comparison of two numbers, and 0 still means none. So whatever goes by numbers alone (neighbours,
-- chains, taking arcs, pieces) is renumbered for any joins. Arcs, their order and the letters also go by the slips' letters: these need
-- the numbers in K, and the joins of the plain rule have both slips there (plain_in).
use mathlib.Core.Path.{◌≡◌, refl, sym, ap, ◌∙◌}
use mathlib.Core.Bool.{Bool, false, ◌&&◌, not}
use mathlib.Core.List.{List, [], ◌∷◌, map, map-append}
use Prim.Native.Nat.{ℕ, zero, suc, ◌+◌, ◌≤◌, ◌<◌}
use native.Mathlib.Omega.{arith}
use lib.Dec.{eqb, ltb, leb}
use lib.ListN.{length, drop, length-map}
use borrow.Author.Tests.{ltb-true, ltb-false, eqb-true, lt-ltb, le-ltb, eq-eqb}
use Rattle.words.specs.Lists.{in_order, head_or}
use Rattle.words.specs.Words.{begins, overlap_for}
use Rattle.words.proofs.Tests.{by_test, same_test}
use Rattle.words.proofs.Members.{In, in_those}
use Rattle.words.proofs.Orders.{up}
use Rattle.words.proofs.Sums.{All, all_append, all_in, all_at}
use Rattle.words.proofs.Maps.{all_in_order, all_each, any-map, those-map, in_order-map, each_same, each_map, tail_of-map}
use Rattle.trays.specs.Slips.{slip, total}
use Rattle.trays.specs.Aside.{aside_for, is_aside, kept}
use Rattle.greedy.specs.Joins.{Join, join, right_of, left_of, last_from, last_of, free, arc, arcs, first_arc, take_arc, take_arcs, plain_for, saved, rejoin}
use Rattle.greedy.specs.Walk.{beginnings, sooner, waiting, behind, visit_slip, visit, walk_from, walk_for}
use Rattle.greedy.specs.Legends.{Piece, piece, overlap_after, chain_from, chain_at, pieces, added, spelled, pieces_for, legend_for}
use Rattle.greedy.specs.Legends.{place_in, place_for, compared_for}

pub record Renumbers (f : ℕ → ℕ) (ss ss' : List (List ℕ)) (K : List ℕ) : Type 0 where
  pub none : f 0 ≡ 0
  pub order : (i k : ℕ) → i < k → f i < f k
  pub letters : (i : ℕ) → In i K → slip ss' (f i) ≡ slip ss i

abbrev pub relabel : (ℕ → ℕ) → List Join → List Join
relabel f js = map (rejoin f) js

abbrev pub repiece : (ℕ → ℕ) → Piece → Piece
repiece f p = piece (f p.number) p.overlap

pub saved_relabel : (f : ℕ → ℕ) (js : List Join) → saved (relabel f js) ≡ saved js
saved_relabel f [] = refl
saved_relabel f (j ∷ js) = ap (λ n. j.overlap + n) (saved_relabel f js)

abbrev Both : (ℕ → Type 0) → Join → Type 0
Both P j = P j.left × P j.right

abbrev pub Within : List ℕ → Join → Type 0
Within K j = Both (λ i. In i K) j

all_arcs : (counts : List ℕ → Bool) (ss : List (List ℕ)) (P : ℕ → Type 0) (K : List ℕ) → All P K → All (Both P) (arcs counts ss K)
all_arcs counts ss P K p = all_each P (Both P) _ (λ l a. all_each P (Both P) (arc counts ss l) (λ r b. one l r a b) K p) K p
  where
    one : (l r : ℕ) → P l → P r → All (Both P) (arc counts ss l r)
    one l r a b =
        by_test (not (eqb l r) && not (eqb (overlap_for counts (slip ss l) (slip ss r)) 0)) (λ e. rw e ((a, b), tt)) (λ e. rw e tt)

all_take_arcs : (Q : Join → Type 0) (xs js : List Join) → All Q xs → All Q js → All Q (take_arcs xs js)
all_take_arcs Q [] js p q = q
all_take_arcs Q (x ∷ xs) js p q =
    all_take_arcs Q xs (take_arc x js) p.1
    (by_test (free x.left x.right js) (λ e. rw e (all_append Q js (x ∷ []) q (p.0, tt))) (λ e. rw e q))

pub plain_in : (counts : List ℕ → Bool) (ss : List (List ℕ)) (K : List ℕ) → All (Within K) (plain_for counts ss K)
plain_in counts ss K =
    let P : ℕ → Type 0 = λ i. In i K in
    all_take_arcs (Both P) (in_order (first_arc ss) (arcs counts ss K)) []
    (all_in_order (Both P) (first_arc ss) (arcs counts ss K) (all_arcs counts ss P K (all_in P K (λ i m. m)))) tt

-- the pieces of joins have the property that the joins' slips, the chains' first slips, and 0 have
module _ (P : ℕ → Type 0) (z : P 0) (js : List Join) (p : All (Both P) js) where
  all_right_of : (i : ℕ) (ks : List Join) → All (Both P) ks → P (right_of i ks)
  all_right_of i [] q = z
  all_right_of i (k ∷ ks) q =
      by_test (eqb i k.left) (λ e. rw (e, right_of) q.0.1) (λ e. rw (e, right_of) (all_right_of i ks q.1))

  all_chain_from : (n i o : ℕ) → P i → All (λ q. P q.number) (chain_from n js i o)
  all_chain_from zero i o x = tt
  all_chain_from (suc n) i o x =
      by_test (eqb i 0) (λ e. rw (e, chain_from) tt)
      (λ e. rw (e, chain_from) (x, all_chain_from n (right_of i js) (overlap_after i js) (all_right_of i js p)))

  all_chain_at : (i : ℕ) → P i → All (λ q. P q.number) (chain_at js i)
  all_chain_at i x =
      by_test (eqb (left_of i js) 0) (λ e. rw (e, chain_at) (all_chain_from (suc (length js)) i 0 x)) (λ e. rw (e, chain_at) tt)

module _ {f : ℕ → ℕ} {ss ss' : List (List ℕ)} {K : List ℕ} (h : Renumbers f ss ss' K) where
  le_relabel : (i k : ℕ) → i ≤ k → f i ≤ f k
  le_relabel i k l =
      by_test (ltb i k) (λ t. omega (arith, h.order i k (ltb-true i k t)))
      (λ t. let e : i ≡ k = omega (arith, ltb-false i k t) in omega (arith, ap f e))

  pub ltb_relabel : (i k : ℕ) → ltb (f i) (f k) ≡ ltb i k
  ltb_relabel i k =
      by_test (ltb i k) (λ t. lt-ltb (f i) (f k) (h.order i k (ltb-true i k t)) ∙ sym t)
      (λ t. le-ltb (f i) (f k) (le_relabel k i (ltb-false i k t)) ∙ sym t)

  pub eqb_relabel : (i k : ℕ) → eqb (f i) (f k) ≡ eqb i k
  eqb_relabel i k =
      same_test (eqb (f i) (f k)) (eqb i k) (λ t. eq-eqb i k (up.con i k (no i k (eqb-true _ _ t)) (no k i (sym (eqb-true _ _ t)))))
      (λ t. eq-eqb (f i) (f k) (ap f (eqb-true i k t)))
    where
      no : (a b : ℕ) → f a ≡ f b → ltb a b ≡ false
      no a b e = sym (ltb_relabel a b) ∙ le-ltb (f a) (f b) (omega arith)

  none_relabel : (i : ℕ) → eqb (f i) 0 ≡ eqb i 0
  none_relabel i = ap (eqb (f i)) (sym h.none) ∙ eqb_relabel i 0

  some_relabel : (i : ℕ) → leb 1 (f i) ≡ leb 1 i
  some_relabel i = ap (λ z. ltb z (f i)) (sym h.none) ∙ ltb_relabel 0 i

  -- what goes by numbers alone
  right_of_relabel : (i : ℕ) (js : List Join) → right_of (f i) (relabel f js) ≡ f (right_of i js)
  right_of_relabel i [] = sym h.none
  right_of_relabel i (j ∷ js) =
      by_test (eqb i j.left) (λ e. rw (eqb_relabel, e, right_of)) (λ e. rw (eqb_relabel, e, right_of) (right_of_relabel i js))

  left_of_relabel : (i : ℕ) (js : List Join) → left_of (f i) (relabel f js) ≡ f (left_of i js)
  left_of_relabel i [] = sym h.none
  left_of_relabel i (j ∷ js) =
      by_test (eqb i j.right) (λ e. rw (eqb_relabel, e, left_of)) (λ e. rw (eqb_relabel, e, left_of) (left_of_relabel i js))

  overlap_after_relabel : (i : ℕ) (js : List Join) → overlap_after (f i) (relabel f js) ≡ overlap_after i js
  overlap_after_relabel i [] = refl
  overlap_after_relabel i (j ∷ js) =
      by_test (eqb i j.left) (λ e. rw (eqb_relabel, e, overlap_after)) (λ e. rw (eqb_relabel, e, overlap_after) (overlap_after_relabel i js))

  last_from_relabel : (n i : ℕ) (js : List Join) → last_from n (f i) (relabel f js) ≡ f (last_from n i js)
  last_from_relabel zero i js = refl
  last_from_relabel (suc n) i js =
      by_test (eqb (right_of i js) 0) (λ e. rw (right_of_relabel, none_relabel, e, last_from))
      (λ e. rw (right_of_relabel, none_relabel, e, last_from, right_of_relabel) (last_from_relabel n (right_of i js) js))

  last_of_relabel : (i : ℕ) (js : List Join) → last_of (f i) (relabel f js) ≡ f (last_of i js)
  last_of_relabel i js = rw length-map (last_from_relabel (length js) i js)

  take_arc_relabel : (x : Join) (js : List Join) → take_arc (rejoin f x) (relabel f js) ≡ relabel f (take_arc x js)
  take_arc_relabel x js =
      simp (right_of_relabel, left_of_relabel, last_of_relabel, none_relabel, eqb_relabel)
      (by_test (free x.left x.right js) (λ e. rw e (sym (map-append (rejoin f) js (x ∷ [])))) (λ e. rw e))

  take_arcs_relabel : (xs js : List Join) → take_arcs (relabel f xs) (relabel f js) ≡ relabel f (take_arcs xs js)
  take_arcs_relabel [] js = refl
  take_arcs_relabel (x ∷ xs) js = ap (take_arcs (relabel f xs)) (take_arc_relabel x js) ∙ take_arcs_relabel xs (take_arc x js)

  chain_from_relabel : (n i o : ℕ) (js : List Join) → chain_from n (relabel f js) (f i) o ≡ map (repiece f) (chain_from n js i o)
  chain_from_relabel zero i o js = refl
  chain_from_relabel (suc n) i o js =
      by_test (eqb i 0) (λ e. rw (none_relabel, e, chain_from))
      (λ e. rw (none_relabel, e, chain_from, right_of_relabel, overlap_after_relabel)
      (ap (λ l. piece (f i) o ∷ l) (chain_from_relabel n (right_of i js) (overlap_after i js) js)))

  chain_at_relabel : (i : ℕ) (js : List Join) → chain_at (relabel f js) (f i) ≡ map (repiece f) (chain_at js i)
  chain_at_relabel i js =
      by_test (eqb (left_of i js) 0)
      (λ e. rw (left_of_relabel, none_relabel, e, chain_at, length-map) (chain_from_relabel (suc (length js)) i 0 js))
      (λ e. rw (left_of_relabel, none_relabel, e, chain_at))

  -- what goes by letters too: the joins of the plain rule
  abbrev Known : ℕ → Type 0
  Known i = slip ss' (f i) ≡ slip ss i

  known : All Known K
  known = all_in Known K h.letters

  total_known : (xs : List ℕ) → All Known xs → total ss' (map f xs) ≡ total ss xs
  total_known [] p = refl
  total_known (x ∷ xs) p = rw (p.0, total_known xs p.1)

  pub total_relabel : total ss' (map f K) ≡ total ss K
  total_relabel = total_known K known

  arc_relabel : (counts : List ℕ → Bool) (l r : ℕ) → Known l → Known r → arc counts ss' (f l) (f r) ≡ relabel f (arc counts ss l r)
  arc_relabel counts l r p q =
      rw (p, q, eqb_relabel)
      (by_test (not (eqb l r) && not (eqb (overlap_for counts (slip ss l) (slip ss r)) 0)) (λ e. rw e) (λ e. rw e))

  arcs_relabel : (counts : List ℕ → Bool) → arcs counts ss' (map f K) ≡ relabel f (arcs counts ss K)
  arcs_relabel counts =
      each_map f Known (rejoin f) _ _ (λ l p. each_map f Known (rejoin f) _ _ (λ r q. arc_relabel counts l r p q) K known) K known

  first_arc_relabel : (x y : Join) → Both Known x → Both Known y → first_arc ss' (rejoin f x) (rejoin f y) ≡ first_arc ss x y
  first_arc_relabel x y p q = simp (p.1, q.1, ltb_relabel, eqb_relabel)

  pub plain_relabel : (counts : List ℕ → Bool) → plain_for counts ss' (map f K) ≡ relabel f (plain_for counts ss K)
  plain_relabel counts =
      let C = arcs counts ss K in
      rw (arcs_relabel counts, in_order-map (rejoin f) (Both Known) (first_arc ss) (first_arc ss') first_arc_relabel C (all_arcs counts ss Known K known))
      (take_arcs_relabel (in_order (first_arc ss) C) [])

  -- the walk
  beginnings_relabel : (counts : List ℕ → Bool) → beginnings counts ss' (map f K) ≡ beginnings counts ss K
  beginnings_relabel counts = each_same f Known _ _ (λ i e. rw e) K known

  waiting_relabel : (x : List ℕ) (js : List Join) → waiting ss' x (map f K) (relabel f js) ≡ map f (waiting ss x K js)
  waiting_relabel x js = those-map f Known _ _ (λ i e. rw (e, right_of_relabel, none_relabel)) K known

  head_or_relabel : (ws : List ℕ) → head_or 0 (map f ws) ≡ f (head_or 0 ws)
  head_or_relabel [] = sym h.none
  head_or_relabel (w ∷ ws) = refl

  behind_relabel : (r : ℕ) (ws : List ℕ) (js : List Join) → behind (f r) (map f ws) (relabel f js) ≡ f (behind r ws js)
  behind_relabel r ws js =
      simp (tail_of-map, head_or_relabel, last_of_relabel, eqb_relabel)
      (by_test (eqb (head_or 0 ws) (last_of r js)) (λ e. rw e) (λ e. rw e))

  visit_slip_relabel : (x : List ℕ) (r : ℕ) (js : List Join) → Known r →
      visit_slip ss' (map f K) x (f r) (relabel f js) ≡ relabel f (visit_slip ss K x r js)
  visit_slip_relabel x r js e =
      let l = behind r (waiting ss x K js) js in
      rw (waiting_relabel, behind_relabel, e, left_of_relabel, none_relabel, some_relabel)
      (by_test (begins x (slip ss r) && (eqb (left_of r js) 0 && leb 1 l))
      (λ t. rw t (sym (map-append (rejoin f) js (join l r (length x) ∷ [])))) (λ t. rw t))

  visit_relabel : (x rs : List ℕ) (js : List Join) → All Known rs →
      visit ss' (map f K) x (map f rs) (relabel f js) ≡ relabel f (visit ss K x rs js)
  visit_relabel x [] js p = refl
  visit_relabel x (r ∷ rs) js p =
      ap (visit ss' (map f K) x (map f rs)) (visit_slip_relabel x r js p.0) ∙ visit_relabel x rs (visit_slip ss K x r js) p.1

  walk_from_relabel : (xs : List (List ℕ)) (js : List Join) → walk_from ss' (map f K) xs (relabel f js) ≡ relabel f (walk_from ss K xs js)
  walk_from_relabel [] js = refl
  walk_from_relabel (x ∷ xs) js = ap (walk_from ss' (map f K) xs) (visit_relabel x K js known) ∙ walk_from_relabel xs (visit ss K x K js)

  pub walk_relabel : (counts : List ℕ → Bool) → walk_for counts ss' (map f K) ≡ relabel f (walk_for counts ss K)
  walk_relabel counts = rw (beginnings_relabel counts) (walk_from_relabel (in_order sooner (beginnings counts ss K)) [])

  -- the legend and the places in it
  pub pieces_relabel : (js : List Join) → pieces (relabel f js) (map f K) ≡ map (repiece f) (pieces js K)
  pieces_relabel js = each_map f Known (repiece f) (chain_at js) (chain_at (relabel f js)) (λ i p. chain_at_relabel i js) K known

  place_in_known : (i here : ℕ) (ps : List Piece) → All (λ q. Known q.number) ps →
      place_in ss' (f i) here (map (repiece f) ps) ≡ place_in ss i here ps
  place_in_known i here [] p = refl
  place_in_known i here (q ∷ ps) p =
      by_test (eqb i q.number) (λ e. rw (eqb_relabel, e, place_in)) (λ e. rw (eqb_relabel, e, place_in, p.0) (place_in_known i (here + length (drop q.overlap (slip ss q.number))) ps p.1))

  module _ (js : List Join) (inside : All (Within K) js) where
    all_pieces : All (λ q. Known q.number) (pieces js K)
    all_pieces = all_each Known (λ q. Known q.number) (chain_at js) (all_chain_at Known (rw h.none) js ends) K known
      where
        ends : All (Both Known) js
        ends = all_in (Both Known) js (λ j m. let r = all_at (Within K) js j inside m in (h.letters j.left r.0, h.letters j.right r.1))

    pub spelled_relabel : spelled ss' (pieces (relabel f js) (map f K)) ≡ spelled ss (pieces js K)
    spelled_relabel =
        rw (pieces_relabel js) (each_same (repiece f) (λ q. Known q.number) (added ss) (added ss') (λ q e. rw e) (pieces js K) all_pieces)

    pub place_in_relabel : (i here : ℕ) → place_in ss' (f i) here (pieces (relabel f js) (map f K)) ≡ place_in ss i here (pieces js K)
    place_in_relabel i here = rw (pieces_relabel js) (place_in_known i here (pieces js K) all_pieces)

-- the members M of a tray, of which some are set aside
module _ {f : ℕ → ℕ} {ss ss' : List (List ℕ)} {M : List ℕ} (h : Renumbers f ss ss' M) where
  pub is_aside_relabel : (i : ℕ) → In i M → is_aside ss' (map f M) (f i) ≡ is_aside ss M i
  is_aside_relabel i m =
      any-map f (Known h) (aside_for ss i) (aside_for ss' (f i)) (λ k q. rw (h.letters i m, q, ltb_relabel h)) M (known h)

  pub kept_relabel : kept ss' (map f M) ≡ map f (kept ss M)
  kept_relabel = those-map f (λ i. In i M) _ _ (λ i m. ap not (is_aside_relabel i m)) M (all_in (λ i. In i M) M (λ i m. m))

  pub kept_renumbers : Renumbers f ss ss' (kept ss M)
  kept_renumbers = record { none = h.none; order = h.order; letters = λ i m. h.letters i (in_those _ M m).0 }

  module _ (counts : List ℕ → Bool) where
    pub joins_relabel : plain_for counts ss' (kept ss' (map f M)) ≡ relabel f (plain_for counts ss (kept ss M))
    joins_relabel = rw kept_relabel (plain_relabel kept_renumbers counts)

    pieces_for_relabel : pieces_for counts ss' (map f M) ≡ pieces (relabel f (plain_for counts ss (kept ss M))) (map f (kept ss M))
    pieces_for_relabel = rw (joins_relabel, kept_relabel)

    pub legend_relabel : legend_for counts ss' (map f M) ≡ legend_for counts ss M
    legend_relabel = rw pieces_for_relabel (spelled_relabel kept_renumbers (plain_for counts ss (kept ss M)) (plain_in counts ss (kept ss M)))

    pub place_for_relabel : (i : ℕ) → In i M → place_for counts ss' (map f M) (f i) ≡ place_for counts ss M i
    place_for_relabel i m =
        by_test (is_aside ss M i) (λ e. rw (is_aside_relabel i m, e, place_for, h.letters i m, legend_relabel))
        (λ e. rw (is_aside_relabel i m, e, place_for, pieces_for_relabel)
        (place_in_relabel kept_renumbers (plain_for counts ss (kept ss M)) (plain_in counts ss (kept ss M)) i 1))

    pub compared_for_relabel : (i : ℕ) → In i M → compared_for counts ss' (map f M) (f i) ≡ compared_for counts ss M i
    compared_for_relabel i m = rw (is_aside_relabel i m, h.letters i m, legend_relabel)
