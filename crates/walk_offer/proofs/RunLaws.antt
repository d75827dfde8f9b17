-- Lists of slips threaded through the work area.
--   along-..    == the numbers along next, as a list
--   listed-..   == a list of slips of the tray: from what is threaded, its first one, the next one
--   start_short == a slip starts as early as one ends
--   starter_kept, ender_kept == the lists are the same in a work area of which only joins have changed
-- From a slip the list is that slip and the list from the next one: it ends within 200 slips, so one turn fewer is enough for the rest.
use mathlib.Core.Path.{◌≡◌, refl, sym, ap, fun_ext, ◌∙◌}
use mathlib.Core.List.Memᴰ
use mathlib.Core.List.{List, [], ◌∷◌}
use Prim.Native.Nat.{ℕ, zero, suc, ◌+◌, ◌-◌, ◌≤◌, ◌<◌}
use native.Mathlib.Omega.{arith}
use lib.ListN.{length}
use Rattle.words.proofs.Members.{In, Asc}
use Rattle.trays.specs.Limits.{max_slips, max_letters}
use Rattle.trays.specs.Slips.{start_of, end_of}
use Rattle.tables.specs.Tables.{Cells, Only}
use Rattle.layout.specs.Layout.{STARTS_NEXT, ENDS_NEXT, JOINS, all_joins}
use Rattle.layout.specs.Tables.{Threaded}
use Rattle.walk_offer.specs.Steps.Runs.{along, next_starter, next_ender, Real, ListedFrom}
use Rattle.walk_offer.specs.Steps.Offers.{Sized}

pub start_short : (es : List ℕ) → ((i : ℕ) → end_of es i ≤ max_letters) → (i : ℕ) → start_of es i ≤ max_letters
start_short es h zero = omega arith
start_short es h (suc i) = h i

module _ (next : ℕ → ℕ) where
  pub along_none : (n : ℕ) → along next n 0 ≡ []
  along_none zero = refl
  along_none (suc n) = refl

  along-some : (n i : ℕ) → 1 ≤ i → along next (suc n) i ≡ i ∷ along next n (next i)
  along-some n zero h = absurd (omega arith)
  along-some n (suc i) h = refl

  along-length : (n i : ℕ) → length (along next n i) ≤ n
  along-length zero i = omega arith
  along-length (suc n) zero = omega arith
  along-length (suc n) (suc i) = omega (arith, along-length n (next (suc i)))

  -- what is threaded from i on is what stands along next
  pub threaded_along : (n i : ℕ) (xs : List ℕ) → Threaded next i xs → ((x : ℕ) → In x xs → 1 ≤ x) → length xs ≤ n → along next n i ≡ xs
  threaded_along n i [] e p h = rw e (along_none n)
  threaded_along zero i (x ∷ xs) e p h = absurd (omega arith)
  threaded_along (suc n) i (x ∷ xs) e p h =
      rw (e.0, along-some n x (p x (Memᴰ.head refl)))
      (ap (λ l. x ∷ l) (threaded_along n (next x) xs e.1 (λ y m. p y (Memᴰ.tail m)) (omega arith)))

  module _ (es : List ℕ) (d : ℕ) where
    pub listed_is : (i : ℕ) (xs : List ℕ) → Threaded next i xs → Asc ◌<◌ xs → ((x : ℕ) → In x xs → Real es d x) → length xs ≤ max_slips → ListedFrom es d next i
    listed_is i xs e a p h =
        let q = threaded_along max_slips i xs e (λ x m. (p x m).some) h in
        record { threaded = rw q e; ascending = rw q a; all = rw q p }

    module _ (i : ℕ) (L : ListedFrom es d next i) (some : i ≡ 0 → ⊥) where
      first : along next max_slips i ≡ i ∷ along next (max_slips - 1) (next i)
      first = along-some (max_slips - 1) i (omega arith)

      rest : Threaded next (next i) (along next (max_slips - 1) (next i))
      rest = (rw first at L.threaded).1

      positive : (x : ℕ) → In x (along next (max_slips - 1) (next i)) → 1 ≤ x
      positive x m = ((rw first at L.all) x (Memᴰ.tail m)).some

      enough : along next max_slips (next i) ≡ along next (max_slips - 1) (next i)
      enough = threaded_along max_slips (next i) (along next (max_slips - 1) (next i)) rest positive (omega (arith, along-length (max_slips - 1) (next i)))

      pub listed_first : along next max_slips i ≡ i ∷ along next max_slips (next i)
      listed_first = first ∙ ap (λ l. i ∷ l) (sym enough)

      pub listed_next : ListedFrom es d next (next i)
      listed_next =
          record {
            threaded = rw enough rest;
            ascending = (rw listed_first at L.ascending).1;
            all = λ x m. (rw listed_first at L.all) x (Memᴰ.tail m);
          }

      pub listed_real : Real es d i
      listed_real = (rw first at L.all) i (Memᴰ.head refl)

module _ {es w w' : List ℕ} {d : ℕ} (S : Sized es w d) (f : Only (Cells JOINS all_joins) w w') where
  pub sized_kept : Sized es w' d
  sized_kept =
      record { room = omega (arith, S.room, f.same); few = S.few; short = S.short; some = S.some; most = S.most }

  pub ender_kept : next_ender w' es d ≡ next_ender w es d
  ender_kept =
      fun_ext (λ l. f.kept (ENDS_NEXT + (end_of es l - d)) (λ q. omega (arith, q.from, S.short l, S.some)))

  pub starter_kept : next_starter w' es d ≡ next_starter w es d
  starter_kept =
      fun_ext (λ r. f.kept (STARTS_NEXT + (start_of es r + d - 1)) (λ q. omega (arith, q.from, start_short es S.short r, S.most)))
