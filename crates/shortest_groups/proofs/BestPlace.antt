-- The search over any weights w of ordered pairs: what one run over the places that are left finds.
--   best_taken, best_left == one member more, which is better than all before it, or not
--   most_step, choose-step == the most that is saved behind a place, and the best order, from what is saved behind each place that is left
--   most-bound            == what is saved is at most so much for each place
use mathlib.Core.Path.{◌≡◌, refl, sym, ap, ◌∙◌}
use mathlib.Core.List.{List, [], ◌∷◌, ◌++◌}
use Prim.Native.Nat.{ℕ, suc, ◌+◌, ◌-◌, ◌*◌, ◌≤◌, ◌<◌}
use native.Mathlib.Nat.{suc-mul}
use native.Mathlib.Omega.{arith}
use lib.ListN.{length}
use borrow.Author.Tests.{lt-ltb, le-ltb}
use Rattle.words.proofs.Members.{In}
use Rattle.greedy.specs.Orders.{along}
use Rattle.shortest.specs.Orders.{without, better}
use Rattle.shortest.specs.Steps.Choosing.{greater, first_most, choose, most}
use Rattle.shortest.proofs.Firsts.{better-yes, better_no, first_from_append, first_most_in, first_most-same}
use Rattle.shortest.proofs.Without.{without-length}
use Rattle.shortest.proofs.Places.{choose-length}
use Rattle.shortest_groups.specs.Steps.NextPlace.{best_of}
use Rattle.shortest_groups.specs.Steps.Working.{Right}

-- one member more
module _ (v : ℕ → ℕ) where
  first_most_more : (y : ℕ) (ys : List ℕ) (x : ℕ) → first_most v 0 (y ∷ (ys ++ (x ∷ []))) ≡ better (greater v) (first_most v 0 (y ∷ ys)) x
  first_most_more y ys x = first_from_append (greater v) y ys (x ∷ [])

  pub best_taken :
      (xs : List ℕ) (x : ℕ) → best_of v xs < suc (v x)
      → (first_most v 0 (xs ++ (x ∷ [])) ≡ x) × (best_of v (xs ++ (x ∷ [])) ≡ suc (v x))
  best_taken [] x h = (refl, refl)
  best_taken (y ∷ ys) x h =
      let m = first_most v 0 (y ∷ ys) in
      let e : first_most v 0 (y ∷ (ys ++ (x ∷ []))) ≡ x = first_most_more y ys x ∙ better-yes (greater v) m x (lt-ltb (v m) (v x) (omega arith)) in
      (e, ap (λ z. suc (v z)) e)

  pub best_left :
      (xs : List ℕ) (x : ℕ) → suc (v x) ≤ best_of v xs
      → (first_most v 0 (xs ++ (x ∷ [])) ≡ first_most v 0 xs) × (best_of v (xs ++ (x ∷ [])) ≡ best_of v xs)
  best_left [] x h = absurd (omega arith)
  best_left (y ∷ ys) x h =
      let m = first_most v 0 (y ∷ ys) in
      let e : first_most v 0 (y ∷ (ys ++ (x ∷ []))) ≡ m = first_most_more y ys x ∙ better_no (greater v) m x (le-ltb (v m) (v x) (omega arith)) in
      (e, ap (λ z. suc (v z)) e)

best_of-same : (u v : ℕ → ℕ) (xs : List ℕ) → ((x : ℕ) → In x xs → u x ≡ v x) → best_of u xs ≡ best_of v xs
best_of-same u v [] h = refl
best_of-same u v (x ∷ xs) h =
    ap suc (h (first_most u 0 (x ∷ xs)) (first_most_in u 0 x xs) ∙ ap v (first_most-same u v 0 (x ∷ xs) h))

-- what is saved behind a, and by which place first, where t says what is saved behind each place that is left
module _ (w : ℕ → ℕ → ℕ) (a : ℕ) (t : ℕ → ℕ) where
  abbrev saved : ℕ → ℕ
  saved j = w a j + t j

  right_same :
      (r : ℕ) (rs : List ℕ) → Right w t (r ∷ rs) → (j : ℕ) → In j (r ∷ rs)
      → saved j ≡ w a j + most w (length rs) j (without j (r ∷ rs))
  right_same r rs h j m =
      let e : length (without j (r ∷ rs)) ≡ length rs = omega (arith, without-length j (r ∷ rs) m) in
      ap (λ x. w a j + x) (h j m ∙ ap (λ n. most w n j (without j (r ∷ rs))) e)

  pub most_step : (R : List ℕ) → Right w t R → most w (length R) a R ≡ best_of saved R - 1
  most_step [] h = refl
  most_step (r ∷ rs) h =
      omega (arith, best_of-same saved (λ j. w a j + most w (length rs) j (without j (r ∷ rs))) (r ∷ rs) (right_same r rs h))

  pub choose-step :
      (R : List ℕ) (j : ℕ) → 1 ≤ length R → Right w t R → j ≡ first_most saved 0 R
      → (choose w (length R) a R ≡ j ∷ choose w (length (without j R)) j (without j R)) × In j R
  choose-step [] j l h e = absurd (omega arith)
  choose-step (r ∷ rs) j l h e =
      let R = r ∷ rs in
      let i : In j R = rw e (first_most_in saved 0 r rs) in
      let s : first_most (λ j. w a j + most w (length rs) j (without j R)) 0 R ≡ j =
      sym (e ∙ first_most-same saved (λ j. w a j + most w (length rs) j (without j R)) 0 R (right_same r rs h)) in
      let n : length (without j R) ≡ length rs = omega (arith, without-length j R i) in
      (ap (λ j. j ∷ choose w (length rs) j (without j R)) s ∙ rw n, i)

-- bounds
module _ (w : ℕ → ℕ → ℕ) where
  along-bound : (m : ℕ) → ((a b : ℕ) → w a b ≤ m) → (i : ℕ) (xs : List ℕ) → along w i xs ≤ length xs * m
  along-bound m h i [] = omega arith
  along-bound m h i (x ∷ xs) = omega (arith, h i x, along-bound m h x xs, suc-mul (length xs) m)

  pub most-bound : (m : ℕ) → ((a b : ℕ) → w a b ≤ m) → (n i : ℕ) (R : List ℕ) → most w n i R ≤ n * m
  most-bound m h n i R = rw (choose-length w n i R) at (along-bound m h i (choose w n i R))
