-- A text that holds every slip of K gives an order of K: by the places of the slips in it.
--   over ss i k     == the overlap of slip i and slip k
--   Apart ss K      == no slip of K stands in another one
--   Laid ss t p xs  == the slips xs stand in t at places that rise from p on
-- Where b stands behind a in a text and not inside a, the letters they share end a and begin b: so b stands at least the length of a
-- without the overlap of the two behind a. Added up along the order, the text is at least as long as the slips without these overlaps.
use mathlib.Core.Path.{◌≡◌, refl}
use mathlib.Core.Bool.{true, false}
use mathlib.Core.List.{List, [], ◌∷◌}
use mathlib.Core.Logic.{inl, inr}
use Prim.Native.Nat.{ℕ, ◌+◌, ◌-◌, ◌≤◌}
use native.Mathlib.Omega.{arith}
use lib.Dec.{leb}
use lib.ListN.{length, drop}
use lib.Seq.{drop-drop}
use borrow.Author.Tests.{leb-true, leb-false}
use Rattle.words.specs.Words.{begins, stands_in, overlap}
use Rattle.words.proofs.Tests.{tell, both, not_both}
use Rattle.words.proofs.Strings.{begins-drop, begins_both, stands_drop, stands_at}
use Rattle.words.proofs.Overlaps.{overlap_max}
use Rattle.words.proofs.Sums.{sum, is, held, held_first}
use Rattle.trays.specs.Slips.{slip, total}
use Rattle.greedy.specs.Orders.{along}
use Rattle.greedy.specs.Claims.{holds_all}
use Rattle.greedy.proofs.Letters.{total_sum}

abbrev pub over : List (List ℕ) → ℕ → ℕ → ℕ
over ss i k = overlap (slip ss i) (slip ss k)

abbrev pub Apart : List (List ℕ) → List ℕ → Type 0
Apart ss K = (i k : ℕ) → 1 ≤ held i K → 1 ≤ held k K → (i ≡ k → ⊥) → stands_in (slip ss i) (slip ss k) ≡ false

-- b at place j, not before a at place i, and not inside a
apart_places :
    (a b t : List ℕ) (i j : ℕ)
    → begins a (drop i t) ≡ true → begins b (drop j t) ≡ true → i ≤ j → stands_in b a ≡ false → i + length a ≤ j + overlap a b
apart_places a b t i j ba bb h e =
    let d : ℕ = j - i in
    let k : i + d ≡ j = omega arith in
    let ca : begins (drop d a) (drop j t) ≡ true = rw (drop-drop d i t, k) at (begins-drop d a (drop i t) ba) in
    elim (tell (leb (length b) (length (drop d a)))) [
      | inl l ↦
          absurd (not_both (stands_in b a)
          (stands_drop d b a (begins_both b (drop d a) (drop j t) bb ca (leb-true (length b) (length (drop d a)) l))) e)
      | inr l ↦
          let s : length (drop d a) ≤ length b = omega (arith, leb-false (length b) (length (drop d a)) l) in
          omega (arith, overlap_max d a b (begins_both (drop d a) b (drop j t) ca bb s))
    ]

module _ (ss : List (List ℕ)) (t : List ℕ) where
  -- slip x stands in t at place k
  abbrev At : ℕ → ℕ → Type 0
  At k x = (k + length (slip ss x) ≤ length t) × (begins (slip ss x) (drop k t) ≡ true)

  abbrev Laid : ℕ → List ℕ → Type 0
  Laid p [] = Unit {0}
  Laid p (x ∷ xs) = (k : ℕ) × (p ≤ k) × At k x × Laid k xs

  laid_put :
      (k x : ℕ) → At k x → (p : ℕ) (ys : List ℕ) → p ≤ k → Laid p ys
      → (zs : List ℕ) × ((g : ℕ → ℕ) → sum g zs ≡ g x + sum g ys) × Laid p zs
  laid_put k x a p [] h l = (x ∷ [], (λ g. refl), (k, h, a, tt))
  laid_put k x a p (y ∷ ys) h (m, n, b, l) =
      elim (tell (leb k m)) [
        | inl e ↦ (x ∷ (y ∷ ys), (λ g. refl), (k, h, a, (m, leb-true k m e, b, l)))
        | inr e ↦
            let r = laid_put k x a m ys (omega (arith, leb-false k m e)) l in
            (y ∷ r.0, (λ g. omega (arith, r.1 g)), (m, n, b, r.2))
      ]

  laid_all : (K : List ℕ) → holds_all ss K t ≡ true → (xs : List ℕ) × ((g : ℕ → ℕ) → sum g xs ≡ sum g K) × Laid 0 xs
  laid_all [] e = ([], (λ g. refl), tt)
  laid_all (x ∷ K) e =
      let (s, f) = both (stands_in (slip ss x) t) (holds_all ss K t) e in
      let (k, n, b) = stands_at (slip ss x) t s in
      let (xs, h, l) = laid_all K f in
      let (zs, g, m) = laid_put k x (n, b) 0 xs (omega arith) l in
      (zs, (λ f. omega (arith, g f, h f)), m)

  module _ (K : List ℕ) (once : (x : ℕ) → held x K ≤ 1) (apart : Apart ss K) where
    laid_total :
        (x : ℕ) (xs : List ℕ) (k : ℕ) → ((i : ℕ) → held i (x ∷ xs) ≤ held i K) → At k x → Laid k xs
        → k + total ss (x ∷ xs) ≤ length t + along (over ss) x xs
    laid_total x [] k h a l = omega arith
    laid_total x (y ∷ ys) k h a (m, n, b, l) =
        let hx = held_first x x [] refl in
        let hy = held_first y y ys refl in
        let out = apart y x (omega (arith, h y)) (omega (arith, h x)) (λ e. omega (arith, h x, once x, held_first x y ys e)) in
        omega (
          arith,
          apart_places (slip ss x) (slip ss y) t k m a.1 b.1 n out,
          laid_total y ys m (λ i. omega (arith, h i)) b l,
        )

    laid_length :
        (xs : List ℕ) → ((g : ℕ → ℕ) → sum g xs ≡ sum g K) → Laid 0 xs → total ss xs ≤ length t + along (over ss) 0 xs
    laid_length [] h l = omega arith
    laid_length (x ∷ xs) h (k, n, a, l) = omega (arith, laid_total x xs k (λ i. omega (arith, h (is i))) a l)

    -- the order that a text gives: it saves on the slips laid end to end at most what the order overlaps
    pub text_order :
        holds_all ss K t ≡ true
        → (xs : List ℕ) × ((g : ℕ → ℕ) → sum g xs ≡ sum g K) × (total ss K ≤ length t + along (over ss) 0 xs)
    text_order e =
        let (xs, h, l) = laid_all K e in
        (xs, h, omega (arith, laid_length xs h l, total_sum ss xs, total_sum ss K, h (λ i. length (slip ss i))))
