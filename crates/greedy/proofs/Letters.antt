-- The letters of pieces laid in an order, and of the pieces of joins.
--   Over x o y         == y lies over x with overlap o: x and the letters of y beyond o end with y, o letters before the end of x
--   Order ss x ps      == each piece of ps lies over the slip before it, the first over x
--   laid_from w p xs    == slip p, laid with overlap 0, and the pieces of the slips xs laid after it
-- Letters that end with x end with y after y was laid over x; so each slip of an order stands where place_in says, and adds its length
-- without its overlap. The pieces of joins are an order, since a join's overlap is that of its two slips and a chain starts with overlap
-- 0. Where chains represent the joins, the pieces are the chains', one after another: their numbers are those of K, their overlaps those of the joins.
use mathlib.Core.Path.{◌≡◌, refl, sym, ap, ◌∙◌}
use mathlib.Core.Bool.{Bool, true}
use mathlib.Core.List.{List, [], ◌∷◌, ◌++◌, append_assoc, append-nil, map}
use mathlib.Core.Logic.{◌⊎◌, inl, inr}
use Prim.Native.Nat.{ℕ, zero, suc, ◌+◌, ◌-◌, ◌≤◌}
use native.Mathlib.Omega.{arith}
use lib.Dec.{eqb}
use lib.ListN.{length, drop, length-append, length-drop}
use lib.Seq.{drop_at}
use borrow.Author.Tests.{eqb-true, eq-eqb, ne_eqb}
use Rattle.words.specs.Lists.{each, last_or}
use Rattle.words.specs.Words.{begins, ends, stands_in, overlap_for}
use Rattle.words.proofs.Tests.{tell, and_intro}
use Rattle.words.proofs.Strings.{begins-here, ends-here, stands_drop}
use Rattle.words.proofs.Overlaps.{overlap_at_most, overlap_for_at_most, overlap_for-fits, lay_over_for}
use Rattle.words.proofs.Sums.{sum, All, is, held, held_first, sum_append}
use Rattle.trays.specs.Slips.{slip, total}
use Rattle.greedy.specs.Joins.{Join, right_of, left_of, saved}
use Rattle.greedy.specs.Legends.{Piece, piece, overlap_after, chain_from, chain_at, pieces, added, spelled, place_in}
use Rattle.greedy.specs.Orders.{weight, laid_after, along}
use Rattle.greedy.specs.Claims.{holds_all}
use Rattle.greedy.proofs.Chains.{Chain, whole_chain, Tail, Run, Arc, Rep}

abbrev pub Over : List ℕ → ℕ → List ℕ → Type 0
Over x o y = (u : List ℕ) × (x ++ drop o y ≡ u ++ y) × (length u + o ≡ length x)

abbrev pub Order : List (List ℕ) → List ℕ → List Piece → Type 0
Order ss x [] = Unit {0}
Order ss x (p ∷ ps) = Over x p.overlap (slip ss p.number) × Order ss (slip ss p.number) ps

pub over_none : (x y : List ℕ) → Over x 0 y
over_none x y = (x, refl, omega arith)

pub over-most : (x : List ℕ) (o : ℕ) (y : List ℕ) → Over x o y → o ≤ length y
over-most x o y (u, e, n) = omega (arith, simp (length-append, length-drop) at (ap length e))

pub over-overlap : (counts : List ℕ → Bool) (x y : List ℕ) → Over x (overlap_for counts x y) y
over-overlap counts x y =
    let (u, e) = lay_over_for counts x y in
    (u, e, omega (arith, overlap_for-fits counts x y, simp (length-append, length-drop) at (ap length e)))

-- letters that end with x end with y after y was laid over x
over_next : (v x : List ℕ) (o : ℕ) (y r : List ℕ) (O : Over x o y) → (v ++ x) ++ (drop o y ++ r) ≡ ((v ++ O.0) ++ y) ++ r
over_next v x o y r O = simp append_assoc (rw (← append_assoc x (drop o y) r, O.1, append_assoc))

over-length : (v x : List ℕ) (o : ℕ) (y : List ℕ) (O : Over x o y) → length ((v ++ O.0) ++ y) ≡ length (v ++ x) + length (drop o y)
over-length v x o y O = simp length-append (omega (arith, simp length-append at (ap length O.1)))

-- the place of y in those letters
over-begins :
    (v x : List ℕ) (o : ℕ) (y r : List ℕ) (here : ℕ) → here ≡ suc (length (v ++ x)) → Over x o y
    → (1 ≤ here - o) × (begins y (drop (here - o - 1) ((v ++ x) ++ (drop o y ++ r))) ≡ true)
over-begins v x o y r here h O =
    let n : length (v ++ O.0) ≡ here - o - 1 = omega (arith, simp length-append at h, length-append v O.0) in (
      omega (arith, simp length-append at h),
      rw (over_next v x o y r O, append_assoc (v ++ O.0) y r, drop_at (v ++ O.0) (y ++ r) (here - o - 1) n) (begins-here y r),
    )

module _ (ss : List (List ℕ)) where
  -- a slip of an order stands at its place
  pub order_place :
      (i : ℕ) (ps : List Piece) (v x : List ℕ) (here : ℕ)
      → here ≡ suc (length (v ++ x)) → Order ss x ps → 1 ≤ sum (λ p. is i p.number) ps
      → (1 ≤ place_in ss i here ps) × (begins (slip ss i) (drop (place_in ss i here ps - 1) ((v ++ x) ++ spelled ss ps)) ≡ true)
  order_place i [] v x here h O n = absurd (omega arith)
  order_place i (p ∷ ps) v x here h (O, Os) n =
      let o = p.overlap in
      let y = slip ss p.number in
      elim (tell (eqb i p.number)) [
        | inl e ↦ rw (e, place_in, eqb-true i p.number e) (over-begins v x o y (spelled ss ps) here h O)
        | inr e ↦
            rw (e, place_in, over_next v x o y (spelled ss ps) O)
            (order_place i ps (v ++ O.0) y (here + length (added ss p)) (omega (arith, over-length v x o y O)) Os (omega (arith, rw e at n)))
      ]

  pub order_holds :
      (i : ℕ) (ps : List Piece) → Order ss [] ps → 1 ≤ sum (λ p. is i p.number) ps → stands_in (slip ss i) (spelled ss ps) ≡ true
  order_holds i ps O n = stands_drop (place_in ss i 1 ps - 1) (slip ss i) (spelled ss ps) (order_place i ps [] [] 1 refl O n).1

  -- behind letters that end with x, the letters end with the last slip
  pub order_ends :
      (ps : List Piece) (v x : List ℕ) → Order ss x ps
      → ends (last_or x (map (λ p. slip ss p.number) ps)) ((v ++ x) ++ spelled ss ps) ≡ true
  order_ends [] v x O = rw append-nil (ends-here x v)
  order_ends (p ∷ ps) v x (O, Os) =
      rw (over_next v x p.overlap (slip ss p.number) (spelled ss ps) O) (order_ends ps (v ++ O.0) (slip ss p.number) Os)

  pub order_saving :
      (ps : List Piece) (x : List ℕ) → Order ss x ps
      → sum (λ p. length (slip ss p.number)) ps ≡ sum (λ p. p.overlap) ps + length (spelled ss ps)
  order_saving [] x O = refl
  order_saving (p ∷ ps) x (O, Os) =
      let y = slip ss p.number in
      rw (length-append, length-drop) (omega (arith, over-most x p.overlap y O, order_saving ps y Os))

  pub order_append :
      (ps qs : List Piece) (x : List ℕ) → Order ss x ps → ((z : List ℕ) → Order ss z qs) → Order ss x (ps ++ qs)
  order_append [] qs x O Q = Q x
  order_append (p ∷ ps) qs x (O, Os) Q = (O, order_append ps qs (slip ss p.number) Os Q)

  pub total_sum : (K : List ℕ) → total ss K ≡ sum (λ i. length (slip ss i)) K
  total_sum [] = refl
  total_sum (i ∷ K) = ap (λ n. length (slip ss i) + n) (total_sum K)

  pub holds_all_lem : (K t : List ℕ) → ((i : ℕ) → 1 ≤ held i K → stands_in (slip ss i) t ≡ true) → holds_all ss K t ≡ true
  holds_all_lem [] t h = refl
  holds_all_lem (i ∷ K) t h = and_intro _ _ (h i (held_first i i K refl)) (holds_all_lem K t λ k n. h k (omega arith))

abbrev pub laid_from : (ℕ → ℕ → ℕ) → ℕ → List ℕ → List Piece
laid_from w p xs = piece p 0 ∷ laid_after w p xs

pub laid_numbers : (w : ℕ → ℕ → ℕ) (g : ℕ → ℕ) (p : ℕ) (xs : List ℕ) → sum (λ q. g q.number) (laid_from w p xs) ≡ sum g (p ∷ xs)
laid_numbers w g p [] = refl
laid_numbers w g p (x ∷ xs) = ap (λ n. g p + n) (laid_numbers w g x xs)

pub laid_overlaps : (w : ℕ → ℕ → ℕ) (p : ℕ) (xs : List ℕ) → sum (λ q. q.overlap) (laid_from w p xs) ≡ along w p xs
laid_overlaps w p [] = refl
laid_overlaps w p (x ∷ xs) = omega (arith, laid_overlaps w x xs)

module _ (counts : List ℕ → Bool) (ss : List (List ℕ)) where
  -- no slip has the number 0, so nothing is shared with it
  pub weight_none : (k : ℕ) → weight counts ss 0 k ≡ 0
  weight_none k = omega (arith, overlap_for_at_most counts [] (slip ss k), overlap_at_most [] (slip ss k))

  pub laid_after_lem : (p : ℕ) (xs : List ℕ) → Order ss (slip ss p) (laid_after (weight counts ss) p xs)
  laid_after_lem p [] = tt
  laid_after_lem p (x ∷ xs) = (over-overlap counts (slip ss p) (slip ss x), laid_after_lem x xs)

  pub laid_from_lem : (p : ℕ) (xs x : List ℕ) → Order ss x (laid_from (weight counts ss) p xs)
  laid_from_lem p xs x = (over_none x (slip ss p), laid_after_lem p xs)

  pub laid_holds :
      (i p : ℕ) (xs : List ℕ) → 1 ≤ held i (p ∷ xs) → stands_in (slip ss i) (spelled ss (laid_from (weight counts ss) p xs)) ≡ true
  laid_holds i p xs h =
      order_holds ss i (laid_from (weight counts ss) p xs) (laid_from_lem p xs []) (omega (arith, laid_numbers (weight counts ss) (is i) p xs))

  pub laid_saving :
      (p : ℕ) (xs : List ℕ) → total ss (p ∷ xs) ≡ along (weight counts ss) p xs + length (spelled ss (laid_from (weight counts ss) p xs))
  laid_saving p xs =
      let w = weight counts ss in
      omega (
        arith,
        total_sum ss (p ∷ xs),
        laid_numbers w (λ i. length (slip ss i)) p xs,
        laid_overlaps w p xs,
        order_saving ss (laid_from w p xs) [] (laid_from_lem p xs []),
      )

-- the overlap with the right neighbour, if there is one
after_is :
    (w : ℕ → ℕ → ℕ) (K : List ℕ) (js : List Join) → All (Arc w K) js → (i : ℕ)
    → (overlap_after i js ≡ w i (right_of i js)) ⊎ ((right_of i js ≡ 0) × (overlap_after i js ≡ 0))
after_is w K [] a i = inr (refl, refl)
after_is w K (j ∷ js) (a, rest) i =
    elim (tell (eqb i j.left)) [
      | inl e ↦ rw (e, overlap_after, right_of, eqb-true i j.left e) (inl a.4)
      | inr e ↦ rw (e, overlap_after, right_of) (after_is w K js rest i)
    ]

-- the pieces of joins can be laid
module _ (counts : List ℕ → Bool) (ss : List (List ℕ)) (K : List ℕ) (js : List Join) (arcs : All (Arc (weight counts ss) K) js) where
  after_over : (i : ℕ) → Over (slip ss i) (overlap_after i js) (slip ss (right_of i js))
  after_over i =
      elim (after_is (weight counts ss) K js arcs i) [
        | inl e ↦ rw e (over-overlap counts (slip ss i) (slip ss (right_of i js)))
        | inr e ↦ rw e.1 (over_none (slip ss i) (slip ss (right_of i js)))
      ]

  chain_order : (n i o : ℕ) (x : List ℕ) → Over x o (slip ss i) → Order ss x (chain_from n js i o)
  chain_order zero i o x O = tt
  chain_order (suc n) i o x O =
      elim (tell (eqb i 0)) [
        | inl e ↦ rw (e, chain_from) tt
        | inr e ↦ rw (e, chain_from) (O, chain_order n (right_of i js) (overlap_after i js) (slip ss i) (after_over i))
      ]

  pieces_order : (M x : List ℕ) → Order ss x (pieces js M)
  pieces_order [] x = tt
  pieces_order (i ∷ M) x =
      let n = suc (length js) in
      let O = chain_order n i 0 x (over_none x (slip ss i)) in
      elim (tell (eqb (left_of i js) 0)) [
        | inl e ↦ rw (e, chain_at) (order_append ss (chain_from n js i 0) (pieces js M) x O (pieces_order M))
        | inr e ↦ rw (e, chain_at) (pieces_order M x)
      ]

pub sum_each : {A B : Type 0} (f : B → ℕ) (g : A → List B) (xs : List A) → sum f (each g xs) ≡ sum (λ x. sum f (g x)) xs
sum_each f g [] = refl
sum_each f g (x ∷ xs) = omega (arith, sum_append f (g x) (each g xs), sum_each f g xs)

chain_none : (js : List Join) (n o : ℕ) → chain_from n js 0 o ≡ []
chain_none js zero o = refl
chain_none js (suc n) o = refl

chain_cons :
    (js : List Join) (n i o : ℕ) → 1 ≤ i → chain_from (suc n) js i o ≡ piece i o ∷ chain_from n js (right_of i js) (overlap_after i js)
chain_cons js n i o h = rw (ne_eqb i 0 (λ e. omega arith), chain_from)

rest_none : (js : List Join) (i : ℕ) → 1 ≤ left_of i js → chain_at js i ≡ []
rest_none js i n = rw (ne_eqb (left_of i js) 0 (λ e. omega arith), chain_at)

module _ (w : ℕ → ℕ → ℕ) (K : List ℕ) (js : List Join) (arcs : All (Arc w K) js) where
  chain_run :
      (n p : ℕ) (xs : List ℕ) (o : ℕ) → 1 ≤ p → Tail js p xs → length xs ≤ n → chain_from (suc n) js p o ≡ piece p o ∷ laid_after w p xs
  chain_run n p [] o h t k = rw (chain_cons js n p o h, t, chain_none js n (overlap_after p js))
  chain_run zero p (x ∷ xs) o h t k = absurd (omega arith)
  chain_run (suc n) p (x ∷ xs) o h (r, l, m, t) k =
      elim (after_is w K js arcs p) [
        | inl e ↦ rw (chain_cons js (suc n) p o h, e, r, chain_run n x xs (w p x) m t (omega arith))
        | inr e ↦ absurd (omega arith)
      ]

  chain_first : (C : Chain) → Run js C → length C.rest ≤ length js → chain_at js C.first ≡ laid_from w C.first C.rest
  chain_first C (l, m, t) k = rw (eq-eqb (left_of C.first js) 0 l, chain_at) (chain_run (length js) C.first C.rest 0 m t k)

  module _ (f : Piece → ℕ) where
    -- f, summed over the chain that slip i begins, if it begins one
    abbrev laid : ℕ → ℕ
    laid i = sum f (chain_at js i)

    laid_rest : (p : ℕ) (xs : List ℕ) → Tail js p xs → sum laid xs ≡ 0
    laid_rest p [] t = refl
    laid_rest p (x ∷ xs) (r, l, m, t) = rw (rest_none js x l) (omega (arith, laid_rest x xs t))

    laid_chains :
        (Cs : List Chain) → All (Run js) Cs → sum (λ C. length C.rest) Cs ≤ length js
        → sum (λ C. sum laid (whole_chain C)) Cs ≡ sum (λ C. sum f (laid_from w C.first C.rest)) Cs
    laid_chains [] r n = refl
    laid_chains (C ∷ Cs) (r, rs) n =
        rw (chain_first C r (omega arith), laid_rest C.first C.rest r.2) (omega (arith, laid_chains Cs rs (omega arith)))

    -- a sum over the pieces, chain by chain
    pieces_sum : (Cs : List Chain) → Rep w K js Cs → sum f (pieces js K) ≡ sum (λ C. sum f (laid_from w C.first C.rest)) Cs
    pieces_sum Cs R = sum_each f (chain_at js) K ∙ (sym (R.all laid) ∙ laid_chains Cs R.runs (omega (arith, R.count)))

module _ {w : ℕ → ℕ → ℕ} {K : List ℕ} {js : List Join} {Cs : List Chain} (R : Rep w K js Cs) where
  pub pieces-numbers : (g : ℕ → ℕ) → sum (λ p. g p.number) (pieces js K) ≡ sum g K
  pieces-numbers g = pieces_sum w K js R.arcs (λ p. g p.number) Cs R ∙ simp (laid_numbers w g) (R.all g)

  pub pieces_overlaps : sum (λ p. p.overlap) (pieces js K) ≡ saved js
  pieces_overlaps = pieces_sum w K js R.arcs (λ p. p.overlap) Cs R ∙ simp laid_overlaps R.saved

module _
    (counts : List ℕ → Bool) (ss : List (List ℕ)) {K : List ℕ} {js : List Join} {Cs : List Chain} (R : Rep (weight counts ss) K js Cs)
  where
    pub legend_order : Order ss [] (pieces js K)
    legend_order = pieces_order counts ss K js R.arcs K []

    pub saving_of : total ss K ≡ saved js + length (spelled ss (pieces js K))
    saving_of =
        omega (
          arith,
          total_sum ss K,
          pieces-numbers R (λ i. length (slip ss i)),
          pieces_overlaps R,
          order_saving ss (pieces js K) [] legend_order,
        )

    pub laid_at :
        (i : ℕ) → 1 ≤ held i K
        → (1 ≤ place_in ss i 1 (pieces js K)) × (begins (slip ss i) (drop (place_in ss i 1 (pieces js K) - 1) (spelled ss (pieces js K))) ≡ true)
    laid_at i h = order_place ss i (pieces js K) [] [] 1 refl legend_order (omega (arith, pieces-numbers R (is i)))

    pub holds_of : holds_all ss K (spelled ss (pieces js K)) ≡ true
    holds_of =
        holds_all_lem ss K (spelled ss (pieces js K))
        λ i h. order_holds ss i (pieces js K) legend_order (omega (arith, pieces-numbers R (is i)))
