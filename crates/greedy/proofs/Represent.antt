-- The joins that are taken from any list of arcs are represented by chains.
--   Free a b js    == the test free says: a has no right neighbour, b no left one, and a is not the last of the chain that b begins
--   merged A B     == the chain A with the chain B behind it
--   singles xs     == each slip of xs a chain by itself
-- At the start each slip of K is a chain by itself. A free arc goes from the end of one chain to the first slip of another one, not of
-- the same, which is what the test on rings says (find); the two chains become one (run_merged), and a chain that holds neither slip of
-- the arc stays as it is (run_kept). No inequality on the weights is used, so this serves every rule on which overlaps count.
use mathlib.Core.Path.{◌≡◌, refl, sym, ◌∙◌, ap}
use mathlib.Core.Bool.{Bool, true, false}
use mathlib.Core.List.{List, [], ◌∷◌, ◌++◌, append-nil}
use mathlib.Core.Logic.{inl, inr}
use Prim.Native.Nat.{ℕ, ◌+◌, ◌≤◌}
use native.Mathlib.Omega.{arith}
use lib.Dec.{eqb}
use lib.ListN.{length, length-append}
use borrow.Author.Tests.{eqb-true, eqb-false, eq-eqb, ne_eqb}
use Rattle.words.specs.Lists.{last_or, in_order}
use Rattle.words.proofs.Tests.{tell, not_both}
use Rattle.words.proofs.Sums.{sum, All, is, held, sum_append, sum_cut, all_append, all_split, all_cut}
use Rattle.words.proofs.Sums.{all_where, held_first, held_last, all_held, all_of, all_in, all_at, in_held}
use Rattle.words.proofs.Overlaps.{overlap_for-yes}
use Rattle.trays.specs.Slips.{slip}
use Rattle.greedy.specs.Joins.{Join, right_of, left_of, last_of, free, take_arcs, arcs, first_arc, plain_for, saved as saved_by}
use Rattle.greedy.specs.Orders.{weight, along}
use Rattle.greedy.proofs.Takes.{by_zero, right_of_append, left_of_append, refused_right, refused_left, refused_last, by_refused}
use Rattle.greedy.proofs.Arcs.{arcs_sorted, in_arcs}
use Rattle.greedy.proofs.Chains.{Chain, whole_chain, end, Tail, Run, Arc, Rep, along_append, tail_end, run_last, run_end, run_first}

abbrev pub merged : Chain → Chain → Chain
merged A B = record { first = A.first; rest = A.rest ++ whole_chain B }

pub record Free (a b : ℕ) (js : List Join) : Type 0 where
  pub right : right_of a js ≡ 0
  pub left : left_of b js ≡ 0
  pub cycle : last_of b js ≡ a → ⊥

free-is : (a b : ℕ) (js : List Join) → free a b js ≡ true → Free a b js
free-is a b js e =
    let none : free a b js ≡ false → ⊥ = not_both (free a b js) e in
    record {
      right = by_zero (right_of a js) (λ z. z) (λ h. absurd (none (refused_right a b js h)));
      left = by_zero (left_of b js) (λ z. z) (λ h. absurd (none (refused_left a b js h)));
      cycle = λ h. none (refused_last a b js h);
    }

pub is_free : (a b : ℕ) (js : List Join) → Free a b js → free a b js ≡ true
is_free a b js f =
    elim (tell (free a b js)) [
      | inl e ↦ e
      | inr e ↦ by_refused a b js e (λ h. absurd (omega arith)) (λ h. absurd (omega arith)) (λ h. absurd (f.cycle h))
    ]

-- one more join
module _ (w : ℕ → ℕ → ℕ) (K : List ℕ) where
  right_none : (i : ℕ) (js ks : List Join) → All (Arc w K) js → right_of i js ≡ 0 → right_of i (js ++ ks) ≡ right_of i ks
  right_none i [] ks h z = refl
  right_none i (j ∷ js) ks h z =
      elim (tell (eqb i j.left)) [
        | inl e ↦ absurd (omega (arith, (rw (e, right_of) at z), h.0.1))
        | inr e ↦ rw (e, right_of) (right_none i js ks h.1 (rw (e, right_of) at z))
      ]

  left_none : (i : ℕ) (js ks : List Join) → All (Arc w K) js → left_of i js ≡ 0 → left_of i (js ++ ks) ≡ left_of i ks
  left_none i [] ks h z = refl
  left_none i (j ∷ js) ks h z =
      elim (tell (eqb i j.right)) [
        | inl e ↦ absurd (omega (arith, (rw (e, left_of) at z), h.0.0))
        | inr e ↦ rw (e, left_of) (left_none i js ks h.1 (rw (e, left_of) at z))
      ]

module _ (w : ℕ → ℕ → ℕ) (K : List ℕ) (js : List Join) (arcs : All (Arc w K) js) (j : Join) (arc : Arc w K j) where
  abbrev more : List Join
  more = js ++ (j ∷ [])

  -- a chain as far as its end, which alone may get a right neighbour
  tail_more : (p : ℕ) (xs ys : List ℕ) → Tail js p xs → Tail more (last_or p xs) ys → Tail more p (xs ++ ys)
  tail_more p [] ys t u = u
  tail_more p (x ∷ xs) ys (e, l, m, t) u =
      (right_of_append p js (j ∷ []) (omega arith) ∙ e, rw (left_of_append x js (j ∷ []) l) l, m, tail_more x xs ys t u)

  end_more : (p : ℕ) (xs : List ℕ) → Tail js p xs → right_of (last_or p xs) more ≡ right_of (last_or p xs) (j ∷ [])
  end_more p xs t = right_none w K (last_or p xs) js (j ∷ []) arcs (tail_end js p xs t)

  tail_kept : (C : Chain) → Run js C → held j.left (whole_chain C) ≡ 0 → Tail more C.first C.rest
  tail_kept C (l, m, t) h =
      let ne : end C ≡ j.left → ⊥ = λ e. omega (arith, held_last j.left C.first C.rest e) in
      rw append-nil at (tail_more C.first C.rest [] t (end_more C.first C.rest t ∙ rw (ne_eqb (end C) j.left ne, right_of)))

  first-kept : (C : Chain) → Run js C → held j.right (whole_chain C) ≡ 0 → left_of C.first more ≡ 0
  first-kept C (l, m, t) h =
      let ne : C.first ≡ j.right → ⊥ = λ e. omega (arith, held_first j.right C.first C.rest e) in
      left_none w K C.first js (j ∷ []) arcs l ∙ rw (ne_eqb C.first j.right ne, left_of)

  run_kept : (C : Chain) → Run js C → held j.left (whole_chain C) ≡ 0 → held j.right (whole_chain C) ≡ 0 → Run more C
  run_kept C r l h = (first-kept C r h, r.1, tail_kept C r l)

  run_merged :
      (A B : Chain) → Run js A → Run js B → end A ≡ j.left → B.first ≡ j.right
      → held j.right (whole_chain A) ≡ 0 → held j.left (whole_chain B) ≡ 0 → Run more (merged A B)
  run_merged A B r s l h ha hb =
      let next : right_of (end A) more ≡ B.first = end_more A.first A.rest r.2 ∙ rw (eq-eqb (end A) j.left l, right_of) (sym h) in
      let back : 1 ≤ left_of B.first more = rw (left_none w K B.first js (j ∷ []) arcs s.0, eq-eqb B.first j.right h, left_of) arc.0 in
      (first-kept A r ha, r.1, tail_more A.first A.rest (whole_chain B) r.2 (next, back, s.1, tail_kept B s hb))

-- the chain that ends in a and the chain that b begins, one before the other
module _
    (w : ℕ → ℕ → ℕ) (K : List ℕ) (js : List Join) (a b : ℕ) (Q : List Chain → Type 0)
    (forth : (X M Y : List Chain) (A B : Chain) → end A ≡ a → B.first ≡ b → Q ((X ++ (A ∷ M)) ++ (B ∷ Y)))
    (back : (X M Y : List Chain) (A B : Chain) → end A ≡ a → B.first ≡ b → Q (X ++ (B ∷ (M ++ (A ∷ Y)))))
  where
    find_end :
        (X Y : List Chain) (B : Chain) → Rep w K js (X ++ (B ∷ Y)) → 1 ≤ held a K → 1 ≤ held b (whole_chain B) → Free a b js
        → Q (X ++ (B ∷ Y))
    find_end X Y B r ha hb f =
        let (rX, (rB, rY)) = all_split (Run js) X (B ∷ Y) r.runs in
        let in_a : Chain → ℕ = λ C. held a (whole_chain C) in
        let eb : B.first ≡ b = run_first js b B rB hb f.left in
        let short : length B.rest ≤ length js = omega (arith, r.count, sum_append (λ C. length C.rest) X (B ∷ Y)) in
        let last : last_of b js ≡ end B = ap (λ x. last_of x js) (sym eb) ∙ run_last js B rB short in
        let none : 1 ≤ held a (whole_chain B) → ⊥ = λ h. f.cycle (last ∙ run_end js a B rB h f.right) in
        elim (tell (eqb (sum in_a X) 0)) [
          | inl z ↦
              let n : held a (whole_chain B) ≡ 0 = by_zero (held a (whole_chain B)) (λ z. z) (λ h. absurd (none h)) in
              let all = sum_append in_a X (B ∷ Y) in
              let (M, A, Z, e, rA, h) = all_cut (Run js) in_a Y rY (omega (arith, r.all (is a), eqb-true (sum in_a X) 0 z)) in
              rw e (back X M Z A B (run_end js a A rA h f.right) eb)
          | inr z ↦
              let (Z, A, M, e, rA, h) = all_cut (Run js) in_a X rX (omega (arith, eqb-false (sum in_a X) 0 z)) in
              rw e (forth Z M Y A B (run_end js a A rA h f.right) eb)
        ]

    pub find : (Cs : List Chain) → Rep w K js Cs → 1 ≤ held a K → 1 ≤ held b K → free a b js ≡ true → Q Cs
    find Cs r ha hb e =
        let (X, B, Y, c, h) = sum_cut (λ C. held b (whole_chain C)) Cs (rw (r.all (is b)) hb) in
        rw c (find_end X Y B (rw c at r) ha h (free-is a b js e))

pub saved_append : (js ks : List Join) → saved_by (js ++ ks) ≡ saved_by js + saved_by ks
saved_append [] ks = omega arith
saved_append (j ∷ js) ks = omega (arith, saved_append js ks)

module _ (w : ℕ → ℕ → ℕ) (K : List ℕ) (once : (x : ℕ) → held x K ≤ 1) (js : List Join) (j : Join) (arc : Arc w K j) where
  -- the chains A and B of Cs become one; the others are X and Y
  rep_more :
      (A B : Chain) (X Y Cs : List Chain)
      → end A ≡ j.left → B.first ≡ j.right → ((f : Chain → ℕ) → sum f Cs ≡ f A + f B + sum f (X ++ Y))
      → Run js A → Run js B → All (Run js) (X ++ Y) → Rep w K js Cs → Rep w K (js ++ (j ∷ [])) (X ++ (merged A B ∷ Y))
  rep_more A B X Y Cs ea eb sums rA rB rs r =
      let C = merged A B in
      let more = js ++ (j ∷ []) in
      let sums_more : (f : Chain → ℕ) → sum f (X ++ (C ∷ Y)) + f A + f B ≡ f C + sum f Cs =
      λ f. omega (arith, sums f, sum_append f X Y, sum_append f X (C ∷ Y)) in
      let in_l : Chain → ℕ = λ D. held j.left (whole_chain D) in
      let in_r : Chain → ℕ = λ D. held j.right (whole_chain D) in
      let hl = held_last j.left A.first A.rest ea in
      let hr = held_first j.right B.first B.rest eb in
      let l : in_l B + sum in_l (X ++ Y) ≡ 0 = omega (arith, sums in_l, r.all (is j.left), once j.left) in
      let h : in_r A + sum in_r (X ++ Y) ≡ 0 = omega (arith, sums in_r, r.all (is j.right), once j.right) in
      let (rX, rY) = all_split (Run more) X Y (all_where in_l in_r (run_kept w K js r.arcs j arc) (X ++ Y) rs (omega arith) (omega arith)) in
      let e : w (end A) B.first ≡ j.overlap = rw (ea, eb) (sym arc.4) in
      record {
        all = λ g. omega (arith, sums_more (λ C. sum g (whole_chain C)), r.all g, sum_append g A.rest (whole_chain B));
        runs = all_append (Run more) X (C ∷ Y) rX (run_merged w K js r.arcs j arc A B rA rB ea eb (omega arith) (omega arith), rY);
        arcs = all_append (Arc w K) js (j ∷ []) r.arcs (arc, tt);
        count = omega (arith, sums_more (λ C. length C.rest), r.count, length-append A.rest (whole_chain B), length-append js (j ∷ []));
        saved =
            omega (
              arith,
              sums_more (λ C. along w C.first C.rest),
              r.saved,
              along_append w A.first A.rest B.first B.rest,
              saved_append js (j ∷ []),
            );
      }

  -- the others in the order that keeps most of their links (Links)
  module _ (X M Y : List Chain) (A B : Chain) (ea : end A ≡ j.left) (eb : B.first ≡ j.right) where
    pub rep_forth : Rep w K js ((X ++ (A ∷ M)) ++ (B ∷ Y)) → Rep w K (js ++ (j ∷ [])) ((M ++ X) ++ (merged A B ∷ Y))
    rep_forth r =
        let (u, (rB, rY)) = all_split (Run js) (X ++ (A ∷ M)) (B ∷ Y) r.runs in
        let (rX, (rA, rM)) = all_split (Run js) X (A ∷ M) u in
        rep_more A B (M ++ X) Y ((X ++ (A ∷ M)) ++ (B ∷ Y)) ea eb
        (λ f. omega (arith, sum_append f (X ++ (A ∷ M)) (B ∷ Y), sum_append f X (A ∷ M), sum_append f (M ++ X) Y, sum_append f M X)) rA rB
        (all_append (Run js) (M ++ X) Y (all_append (Run js) M X rM rX) rY) r

    pub rep_back : Rep w K js (X ++ (B ∷ (M ++ (A ∷ Y)))) → Rep w K (js ++ (j ∷ [])) (M ++ (merged A B ∷ (X ++ Y)))
    rep_back r =
        let (rX, (rB, u)) = all_split (Run js) X (B ∷ (M ++ (A ∷ Y))) r.runs in
        let (rM, (rA, rY)) = all_split (Run js) M (A ∷ Y) u in
        rep_more A B M (X ++ Y) (X ++ (B ∷ (M ++ (A ∷ Y)))) ea eb
        (λ f. omega (arith, sum_append f X (B ∷ (M ++ (A ∷ Y))), sum_append f M (A ∷ Y), sum_append f M (X ++ Y), sum_append f X Y)) rA rB
        (all_append (Run js) M (X ++ Y) rM (all_append (Run js) X Y rX rY)) r

  rep_taken :
      (Cs : List Chain) → Rep w K js Cs → free j.left j.right js ≡ true → (Ds : List Chain) × Rep w K (js ++ (j ∷ [])) Ds
  rep_taken Cs r e =
      find w K js j.left j.right (λ Cs. Rep w K js Cs → (Ds : List Chain) × Rep w K (js ++ (j ∷ [])) Ds)
      (λ X M Y A B ea eb r. ((M ++ X) ++ (merged A B ∷ Y), rep_forth X M Y A B ea eb r))
      (λ X M Y A B ea eb r. (M ++ (merged A B ∷ (X ++ Y)), rep_back X M Y A B ea eb r)) Cs r arc.2 arc.3 e r

-- each slip a chain by itself
abbrev alone : ℕ → Chain
alone x = record { first = x; rest = [] }

abbrev pub singles : List ℕ → List Chain
singles [] = []
singles (x ∷ xs) = alone x ∷ singles xs

sum_singles : (f : Chain → ℕ) (g : ℕ → ℕ) → ((x : ℕ) → f (alone x) ≡ g x) → (xs : List ℕ) → sum f (singles xs) ≡ sum g xs
sum_singles f g h [] = refl
sum_singles f g h (x ∷ xs) = omega (arith, h x, sum_singles f g h xs)

none_singles : (f : Chain → ℕ) → ((x : ℕ) → f (alone x) ≡ 0) → (xs : List ℕ) → sum f (singles xs) ≡ 0
none_singles f h [] = refl
none_singles f h (x ∷ xs) = omega (arith, h x, none_singles f h xs)

run_singles : (xs : List ℕ) → All (λ x. 1 ≤ x) xs → All (Run []) (singles xs)
run_singles [] p = tt
run_singles (x ∷ xs) (p, ps) = ((refl, p, refl), run_singles xs ps)

pub rep_singles :
    (w : ℕ → ℕ → ℕ) (K xs : List ℕ) → All (λ x. 1 ≤ x) K → ((g : ℕ → ℕ) → sum g xs ≡ sum g K) → Rep w K [] (singles xs)
rep_singles w K xs p h =
    record {
      all = λ g. sum_singles (λ C. sum g (whole_chain C)) g (λ x. omega arith) xs ∙ h g;
      runs = run_singles xs (all_held (λ x. 1 ≤ x) xs (λ x m. all_of (λ x. 1 ≤ x) K x p (omega (arith, h (is x)))));
      arcs = tt;
      count = none_singles (λ C. length C.rest) (λ x. refl) xs;
      saved = none_singles (λ C. along w C.first C.rest) (λ x. refl) xs;
    }

module _ (w : ℕ → ℕ → ℕ) (K : List ℕ) (once : (x : ℕ) → held x K ≤ 1) where
  rep_take :
      (bs js : List Join) (Cs : List Chain) → Rep w K js Cs → All (Arc w K) bs → (Ds : List Chain) × Rep w K (take_arcs bs js) Ds
  rep_take [] js Cs r arcs = (Cs, r)
  rep_take (j ∷ bs) js Cs r (arc, arcs) =
      elim (tell (free j.left j.right js)) [
        | inl e ↦ let (Ds, s) = rep_taken w K once js j arc Cs r e in rw e (rep_take bs (js ++ (j ∷ [])) Ds s arcs)
        | inr e ↦ rw e (rep_take bs js Cs r arcs)
      ]

  pub represented : All (λ x. 1 ≤ x) K → (bs : List Join) → All (Arc w K) bs → (Ds : List Chain) × Rep w K (take_arcs bs []) Ds
  represented p bs arcs = rep_take bs [] (singles K) (rep_singles w K K p (λ g. refl)) arcs

-- the joins of the plain rule
pub plain-arcs :
    (counts : List ℕ → Bool) (ss : List (List ℕ)) (K : List ℕ) → All (λ x. 1 ≤ x) K
    → All (Arc (weight counts ss) K) (in_order (first_arc ss) (arcs counts ss K))
plain-arcs counts ss K p =
    all_in (Arc (weight counts ss) K) (in_order (first_arc ss) (arcs counts ss K)) λ j m.
    let a = in_arcs counts ss K j ((arcs_sorted counts ss K).back j m) in
    let size = overlap_for-yes counts (slip ss j.left) (slip ss j.right) (rw a.size at a.counted) in (
      all_at (λ x. 1 ≤ x) K j.left p a.left_in,
      all_at (λ x. 1 ≤ x) K j.right p a.right_in,
      in_held j.left K a.left_in,
      in_held j.right K a.right_in,
      a.size ∙ sym size,
    )

pub plain_rep :
    (counts : List ℕ → Bool) (ss : List (List ℕ)) (K : List ℕ) → ((x : ℕ) → held x K ≤ 1) → All (λ x. 1 ≤ x) K
    → (Ds : List Chain) × Rep (weight counts ss) K (plain_for counts ss K) Ds
plain_rep counts ss K once p = represented (weight counts ss) K once p (in_order (first_arc ss) (arcs counts ss K)) (plain-arcs counts ss K p)
