-- The orders of a list: they are the lists that hold each number as often, they come in the order of lists, and the first of them that
-- saves most is found slip by slip.
--   orders_sums, sums_orders == what is listed has the sums of R, and what holds each number as often as R is listed
--   orders_asc               == where R ascends, so do its orders
--   best_orders              == the first of all orders that saves most behind i is the chosen one
-- The orders that begin with x are a block, and behind x they are the orders of R less x: so the best of a block is x and the best behind x.
use mathlib.Core.Path.{◌≡◌, refl, ap, ◌∙◌}
use mathlib.Core.List.Memᴰ
use mathlib.Core.List.{List, [], ◌∷◌, map}
use Prim.Native.Nat.{ℕ, zero, suc, ◌+◌, ◌<◌}
use native.Mathlib.Omega.{arith}
use lib.Dec.{ltb}
use lib.ListN.{length}
use borrow.Author.Tests.{ltb-true, lt-ltb}
use Rattle.words.specs.Words.{before}
use Rattle.words.proofs.Tests.{same_test}
use Rattle.words.proofs.Members.{In, Asc, Less, each_in, in_each, asc_each}
use Rattle.words.proofs.Orders.{up, lex_first, lex_then}
use Rattle.words.proofs.Sums.{sum, All, is, held, held_in, held_first, all_in, all_at}
use Rattle.greedy.specs.Orders.{along}
use Rattle.shortest.specs.Orders.{without, orders}
use Rattle.shortest.specs.Steps.Choosing.{greater, first_most, choose}
use Rattle.shortest.proofs.Without.{without_asc, without_sum, without-length}
use Rattle.shortest.proofs.Firsts.{greater_beats, first_from-map, first_from-same, Firsts, firsts-each}

-- the orders of R that begin with x
abbrev begun : ℕ → List ℕ → ℕ → List (List ℕ)
begun n R x = map (λ xs. x ∷ xs) (orders n (without x R))

abbrev SameSums : List ℕ → List ℕ → Type 0
SameSums R xs = (g : ℕ → ℕ) → sum g xs ≡ sum g R

pub orders_sums : (n : ℕ) (R : List ℕ) → length R ≡ n → All (λ xs. (g : ℕ → ℕ) → sum g xs ≡ sum g R) (orders n R)
orders_sums zero [] e = ((λ g. refl), tt)
orders_sums zero (r ∷ R) e = absurd (omega arith)
orders_sums (suc n) R e =
    all_in (SameSums R) (orders (suc n) R) λ xs i.
    let (x, m, j) = in_each (begun n R) R i in
    let (ys, k, d) = Memᴰ.of_map (λ ys. x ∷ ys) (orders n (without x R)) j in
    let rest = orders_sums n (without x R) (omega (arith, without-length x R m)) in
    λ g. rw (← d) (omega (arith, without_sum g x R m, all_at (SameSums (without x R)) (orders n (without x R)) ys rest k g))

pub sums_orders : (n : ℕ) (R xs : List ℕ) → length R ≡ n → ((x : ℕ) → held x xs ≡ held x R) → In xs (orders n R)
sums_orders zero [] [] e h = Memᴰ.head refl
sums_orders zero [] (x ∷ xs) e h = absurd (omega (arith, h x, held_first x x xs refl))
sums_orders zero (r ∷ R) xs e h = absurd (omega arith)
sums_orders (suc n) [] xs e h = absurd (omega arith)
sums_orders (suc n) (r ∷ R) [] e h = absurd (omega (arith, h r, held_first r r R refl))
sums_orders (suc n) (r ∷ R) (x ∷ xs) e h =
    let S = r ∷ R in
    let m : In x S = held_in x S (omega (arith, h x, held_first x x xs refl)) in
    each_in (begun n S) m
    (Memᴰ.map (λ ys. x ∷ ys)
    (sums_orders n (without x S) xs (omega (arith, without-length x S m)) (λ y. omega (arith, h y, without_sum (is y) x S m))))

asc_behind : (x : ℕ) (xs : List (List ℕ)) → Asc (Less before) xs → Asc (Less before) (map (λ ys. x ∷ ys) xs)
asc_behind x [] a = tt
asc_behind x (y ∷ ys) a = (
  (λ z m. let (k, i, e) = Memᴰ.of_map (λ ys. x ∷ ys) ys m in rw (← e) (lex_then up x x (before y k) refl (a.0 k i))),
  asc_behind x ys a.1,
)

pub orders_asc : (n : ℕ) (R : List ℕ) → Asc ◌<◌ R → Asc (Less before) (orders n R)
orders_asc zero R a = ((λ y m. absurd (Memᴰ.not-nil m)), tt)
orders_asc (suc n) R a =
    asc_each ◌<◌ (Less before) (begun n R) R a
    (λ x. asc_behind x (orders n (without x R)) (orders_asc n (without x R) (without_asc ◌<◌ x R a)))
    (λ x y xs ys l i j.
    let (us, k, d) = Memᴰ.of_map (λ us. x ∷ us) (orders n (without x R)) i in
    let (vs, m, e) = Memᴰ.of_map (λ vs. y ∷ vs) (orders n (without y R)) j in
    rw (← d, ← e) (lex_first up x y (before us vs) (lt-ltb x y l)))

add-ltb : (a p q : ℕ) → ltb (a + p) (a + q) ≡ ltb p q
add-ltb a p q =
    same_test (ltb (a + p) (a + q)) (ltb p q) (λ e. lt-ltb p q (omega (arith, ltb-true (a + p) (a + q) e)))
    (λ e. lt-ltb (a + p) (a + q) (omega (arith, ltb-true p q e)))

module _ (w : ℕ → ℕ → ℕ) where
  -- the weight of the first slip is common to a block
  firsts_begin :
      (i x : ℕ) (xs : List (List ℕ)) (a : List ℕ) → Firsts (greater (along w x)) xs a
      → Firsts (greater (along w i)) (map (λ ys. x ∷ ys) xs) (x ∷ a)
  firsts_begin i x xs a (b, bs, e, f) =
      let behind : List ℕ → List ℕ = λ ys. x ∷ ys in (
        x ∷ b,
        map behind bs,
        ap (map behind) e,
        first_from-map behind (greater (along w i)) b bs
            ∙ ap behind
            (first_from-same (λ ys. Unit {0}) (λ y z. greater (along w i) (x ∷ y) (x ∷ z)) (greater (along w x))
            (λ y z _ _. add-ltb (w i x) (along w x z) (along w x y)) b bs tt (all_in (λ ys. Unit {0}) bs (λ y m. tt))
            ∙ f),
      )

  orders-firsts : (n i : ℕ) (R : List ℕ) → length R ≡ n → Firsts (greater (along w i)) (orders n R) (choose w n i R)
  orders-firsts zero i R e = ([], [], refl, refl)
  orders-firsts (suc n) i [] e = absurd (omega arith)
  orders-firsts (suc n) i (r ∷ R) e =
      let S = r ∷ R in
      let best : ℕ → List ℕ = λ x. x ∷ choose w n x (without x S) in
      let (b, bs, d, f) =
      firsts-each (greater (along w i)) (greater_beats (along w i)) (begun n S) best r R
      (all_in (λ x. Firsts (greater (along w i)) (begun n S x) (best x)) S λ x m.
      firsts_begin i x (orders n (without x S)) (choose w n x (without x S))
      (orders-firsts n x (without x S) (omega (arith, without-length x S m)))) in
      (b, bs, d, f ∙ first_from-map best (greater (along w i)) r R)

  pub best_orders : (n i : ℕ) (R : List ℕ) → length R ≡ n → first_most (along w i) [] (orders n R) ≡ choose w n i R
  best_orders n i R e = let (b, bs, d, f) = orders-firsts n i R e in ap (first_most (along w i) []) d ∙ f
