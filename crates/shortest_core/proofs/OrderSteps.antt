-- From the kept slips to their shortest order.
--   kept_copied           == the kept members stand in a list of ten
--   ten_more              == one of ten numbers more
--   Naming                == the slips at the first i places are named
--   order_sought          == the places chosen, named, are the shortest order
use mathlib.Core.Path.{◌≡◌, refl, sym, ap, ◌∙◌}
use mathlib.Core.List.{List, map, map-append}
use Prim.Native.Nat.{ℕ, suc, ◌+◌, ◌*◌, ◌^◌, ◌≤◌, ◌<◌}
use native.Mathlib.Numerals.{add-one}
use native.Mathlib.Omega.{arith}
use lib.ListN.{length, get_or, take, drop, set, replicate, length-set, length-map}
use lib.Seq.{take-suc, take_at, length-take-le, get_or-take}
use Rattle.words.specs.Lists.{up_from}
use Rattle.words.proofs.Members.{In, in_up_from}
use Rattle.words.proofs.Picks.{get_or_in}
use Rattle.words.proofs.Runs.{length-up_from}
use Rattle.words.proofs.Sums.{all_at}
use Rattle.words.proofs.Buffers.{over-set, length_over}
use Rattle.tables.specs.Tables.{table}
use Rattle.tables.proofs.Tables.{table-length}
use Rattle.trays.specs.Limits.{max_shortest}
use Rattle.trays.specs.Slips.{slips_of}
use Rattle.trays.specs.Aside.{counted}
use Rattle.layout.specs.Layout.{KEPT}
use Rattle.greedy.specs.Orders.{weight}
use Rattle.shortest.specs.Orders.{shortest_for}
use Rattle.shortest.specs.Steps.Choosing.{choose}
use Rattle.shortest.proofs.Places.{choose-length, choose_all, shortest_places}
use Rattle.tables.specs.Copying.{CanCopy}
use Rattle.shortest_groups.specs.Groups as G
use Rattle.shortest_groups.specs.Groups.{pair_cells, pairs_of, Paired}
use Rattle.shortest_pairs.specs.Pairs.{PairsAsk, PairsAre}
use Rattle.shortest_core.specs.Steps.Seeking.{ten_of, KeptAsks, KeptCopied, NamingAsks, Named, SeekAsks, Sought}

-- one of the first k members
pub first_in : (xs : List ℕ) (k a : ℕ) → a < k → k ≤ length xs → In (get_or xs a 0) (take k xs)
first_in xs k a h l =
    let read : get_or (take k xs) a 0 ≡ get_or xs a 0 = get_or-take k xs a 0 h in
    rw read at (get_or_in 0 (take k xs) a (omega (arith, length-take-le k xs l)))

-- ten numbers
pub ten_length : (xs : List ℕ) → length xs ≤ max_shortest → length (ten_of xs) ≡ max_shortest
ten_length xs h = length_over xs (replicate max_shortest 0) h

pub ten_first : (xs : List ℕ) (k : ℕ) → length xs ≡ k → take k (ten_of xs) ≡ xs
ten_first xs k e = take_at xs (drop (length xs) (replicate max_shortest 0)) k e

-- numbers put one after another, each made of a number of a list
pub ten_more : (f : ℕ → ℕ) (ps : List ℕ) (i x : ℕ) (xs : List ℕ) → i < length ps → i < max_shortest → xs ≡ ten_of (map f (take i ps)) → x ≡ f (get_or ps i 0)
    → (i' : ℕ) → i' ≡ i + 1 → set xs i x ≡ ten_of (map f (take i' ps))
ten_more f ps i x xs h few e q i' u =
    let up : i' ≡ suc i = u ∙ add-one i in
    let size : length (map f (take i ps)) ≡ i = length-map (take i ps) f ∙ length-take-le i ps (omega arith) in
    rw (e, over-set 0 (map f (take i ps)) (replicate max_shortest 0) i x size few, q, up, take-suc ps i 0 h, map-append)

module _ (w : List ℕ) (k : ℕ) (A : KeptAsks w k) where
  pub copy_can : CanCopy w KEPT k (replicate max_shortest 0)
  copy_can = record { there = omega (arith, A.room, A.few); room = A.few }

  pub kept_copied : (xs : List ℕ) → xs ≡ ten_of (table w KEPT k) → KeptCopied w k xs
  kept_copied xs e =
      let n = table-length w KEPT k (omega (arith, A.room, A.few)) in
      record { ten = rw e (ten_length (table w KEPT k) (omega (arith, A.few))); first = rw e (ten_first (table w KEPT k) k n) }

-- naming places, one after another
pub record Naming (kept places : List ℕ) (k i : ℕ) (xs : List ℕ) : Type 0 where
  pub upto : i ≤ k
  pub ten : length xs ≡ max_shortest
  pub are : xs ≡ ten_of (map (λ a. get_or (take k kept) a 0) (take i places))

module _ (kept places : List ℕ) (k : ℕ) (A : NamingAsks kept places k) where
  pub naming_none : Naming kept places k 0 (replicate max_shortest 0)
  naming_none = record { upto = omega arith; ten = refl; are = refl }

  -- places are few
  pub place-fits : (i : ℕ) → i < k → i * 2 < 2 ^ 64
  place-fits i h = omega (arith, A.few)

  pub place_listed : (i : ℕ) → i < k → i < length places
  place_listed i h = omega (arith, A.listed)

  pub name_room : (i : ℕ) → i < k → i < max_shortest
  name_room i h = omega (arith, A.few)

  pub known_fits : (i p : ℕ) → i < k → p ≡ get_or places i 0 → p * 2 < 2 ^ 64
  known_fits i p h e = omega (arith, A.among i h, A.few)

  pub place_known : (i p : ℕ) → i < k → p ≡ get_or places i 0 → p < length kept
  place_known i p h e = omega (arith, A.among i h, A.known)

  pub naming_more :
      (i p : ℕ) (xs : List ℕ) → Naming kept places k i xs → i < k → p ≡ get_or places i 0 → (i' : ℕ) → i' ≡ i + 1
      → Naming kept places k i' (set xs i (get_or kept p 0))
  naming_more i p xs N h e i' q =
      let read : get_or kept p 0 ≡ get_or (take k kept) (get_or places i 0) 0 = rw e (sym (get_or-take k kept (get_or places i 0) 0 (A.among i h))) in
      record {
        upto = omega arith;
        ten = length-set xs i (get_or kept p 0) ∙ N.ten;
        are = ten_more (λ a. get_or (take k kept) a 0) places i (get_or kept p 0) xs (place_listed i h) (name_room i h) N.are read i' q;
      }

  pub naming_all : (i : ℕ) (xs : List ℕ) → Naming kept places k i xs → k ≤ i → Named kept places k xs
  naming_all i xs N h = let e : i ≡ k = omega (arith, N.upto) in record { are = rw e at N.are }

-- the order of the first k slips xs, in the table w
module _ (least : ℕ) (s es xs : List ℕ) (k : ℕ) (w : List ℕ) (A : SeekAsks s es xs k w) where
  abbrev K : List ℕ
  K = take k xs

  size : length K ≡ k
  size = length-take-le k xs (omega (arith, A.ten, A.few))

  known : (a : ℕ) → a < k → get_or K a 0 ≡ get_or xs a 0
  known a h = get_or-take k xs a 0 h

  pub pairs_can : PairsAsk s es xs k w
  pairs_can =
      record { tray = A.tray; few = A.few; listed = omega (arith, A.ten, A.few); real = A.real; room = omega (arith, A.room) }

  module _ (w₁ : List ℕ) (P : PairsAre least s es xs k w w₁) where
    pub groups_can : Paired w₁ k
    groups_can = record { room = omega (arith, A.room, P.same); few = A.few; small = P.small }

    abbrev chosen : List ℕ
    chosen = choose (pairs_of w₁) k max_shortest (up_from 0 k)

    module _ (w₂ ps : List ℕ) (O : G.Ordered w₁ k w₂ ps) where
      places_are : take k ps ≡ chosen
      places_are = rw O.order_is (ten_first chosen k (choose-length (pairs_of w₁) k max_shortest (up_from 0 k)))

      places_long : k ≤ length ps
      places_long = rw O.order_is (omega (arith, ten_length chosen (omega (arith, A.few, choose-length (pairs_of w₁) k max_shortest (up_from 0 k))), A.few))

      pub naming_can : NamingAsks xs ps k
      naming_can =
          record {
            few = A.few;
            known = omega (arith, A.ten, A.few);
            listed = places_long;
            among = λ i h.
                let inside : In (get_or ps i 0) (take k ps) = first_in ps k i h places_long in
                let all = choose_all (pairs_of w₁) k max_shortest (up_from 0 k) (length-up_from 0 k) in
                omega (arith, in_up_from 0 k (all_at (λ a. In a (up_from 0 k)) chosen (get_or ps i 0) all (rw places_are at inside)));
          }

      pub order_sought : (r : List ℕ) → Named xs ps k r → Sought least s es xs k w w₂ r
      order_sought r N =
          let named : List ℕ → List ℕ = map (λ a. get_or K a 0) in
          let shortest : shortest_for (counted least) (slips_of s es) K ≡ named chosen =
          shortest_places (counted least) (slips_of s es) K A.rising (pairs_of w₁) max_shortest pairs start
          ∙ ap (λ n. named (choose (pairs_of w₁) n max_shortest (up_from 0 n))) size in
          record { same = O.size ∙ P.same; order_is = N.are ∙ ap ten_of (ap named places_are ∙ sym shortest) }
        where
          pairs : (a b : ℕ) → a < length K → b < length K → pairs_of w₁ a b ≡ weight (counted least) (slips_of s es) (get_or K a 0) (get_or K b 0)
          pairs a b ha hb =
              let la : a < k = omega (arith, size) in
              let lb : b < k = omega (arith, size) in
              get_or-take pair_cells w₁ (max_shortest * a + b) 0 (omega (arith, A.few)) ∙ P.pairs a b la lb ∙ rw (known a la, known b lb)

          start : (b : ℕ) → b < length K → pairs_of w₁ max_shortest b ≡ 0
          start b h =
              let l : b < k = omega (arith, size) in
              get_or-take pair_cells w₁ (max_shortest * max_shortest + b) 0 (omega (arith, A.few)) ∙ P.start b l
