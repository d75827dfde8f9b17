-- Occurrences stored as numbers, two each.
--   over_two     == two numbers more behind those that are written
--   flat-suc     == the numbers of one occurrence more
--   Flattening   == i of them are stored
--   flat-..      == the turns of the loop
use mathlib.Core.Path.{◌≡◌, refl, sym, ap, ◌∙◌}
use mathlib.Core.List.{List, [], ◌∷◌, ◌++◌, append_assoc}
use Prim.Native.Nat.{ℕ, ◌+◌, ◌*◌, ◌≤◌, ◌<◌}
use native.Mathlib.Numerals.{add-one}
use native.Mathlib.Omega.{arith}
use lib.ListN.{length, get_or, take, set, length-append, length-set}
use lib.Seq.{take-suc, length-take-le}
use Rattle.words.specs.Lists.{over}
use Rattle.words.proofs.Buffers.{over-set}
use Rattle.words.proofs.Members.{each_append}
use Rattle.trays.specs.Slips.{slips_of}
use Rattle.matching.specs.Occurrences as O
use Rattle.matching.specs.Occurrences.{occurrences}
use Rattle.trie_scan.proofs.Scans.{able_few}
use Rattle.answers.specs.declared.Found.{Found}
use Rattle.answers.specs.Finding.{found_numbers, flat_found}
use Rattle.answers.proofs.FlatLists.{found_length}
use Rattle.find_core.specs.Steps.Searching.{Ready, Next}
use Rattle.flat_calls.specs.Steps.Occurrences.{FlatTo, CanFlat, NumbersStored}
use Rattle.find_core.proofs.Telling.{Telling, telling_start, telling_ready, telling_more}

over_two : (xs old : List ℕ) (n a b : ℕ) → length xs ≡ n → n + 1 < length old → set (set (over xs old) n a) (n + 1) b ≡ over (xs ++ (a ∷ (b ∷ []))) old
over_two xs old n a b e h =
    let l : length (xs ++ (a ∷ [])) ≡ n + 1 = rw (length-append, e) in
    ap (λ (z : List ℕ). set z (n + 1) b) (over-set 0 xs old n a e (omega arith))
    ∙ over-set 0 (xs ++ (a ∷ [])) old (n + 1) b l h
    ∙ ap (λ (z : List ℕ). over z old) (append_assoc xs (a ∷ []) (b ∷ []))

flat-suc : (fs : List O.Occurrence) (i : ℕ) → i < length fs
    → flat_found (take (i + 1) fs) ≡ flat_found (take i fs) ++ ((get_or fs i (O.occurrence 0 0)).end ∷ ((get_or fs i (O.occurrence 0 0)).which ∷ []))
flat-suc fs i h =
    ap (λ (n : ℕ). flat_found (take n fs)) (add-one i)
    ∙ ap flat_found (take-suc fs i (O.occurrence 0 0) h)
    ∙ each_append found_numbers (take i fs) (get_or fs i (O.occurrence 0 0) ∷ [])

pub record Flattening (s es t : List ℕ) (count : ℕ) (w₀ w o₀ o : List ℕ) (i : ℕ) : Type 0 where
  pub room : 2 * count ≤ length o₀
  pub upto : i ≤ count
  pub telling : Telling s es t count w₀ i w
  pub found_are : FlatTo s es t i o₀ o
  pub same : length o ≡ length o₀

pub flat_start : {s es t : List ℕ} {count : ℕ} {w o : List ℕ} → CanFlat s es t count w o → Flattening s es t count w w o o 0
flat_start c = record { room = c.room; upto = omega arith; telling = telling_start c.enough; found_are = refl; same = refl }

module _ {s es t : List ℕ} {count : ℕ} {w₀ w o₀ o : List ℕ} {i : ℕ} (F : Flattening s es t count w₀ w o₀ o i) where
  abbrev os : List O.Occurrence
  os = occurrences (slips_of s es) t

  written-length : length (flat_found (take i os)) ≡ 2 * i
  written-length = found_length (take i os) ∙ ap (λ (n : ℕ). 2 * n) (length-take-le i os (omega (arith, F.upto, F.telling.upto)))

  pub flat_all : count ≤ i → NumbersStored s es t count w₀ w o₀ o
  flat_all h =
      let e : i ≡ count = omega (arith, F.upto) in
      record { found_are = rw (← e) F.found_are; left = rw (← e) F.telling.left }

  module _ (h : i < count) where
    pub flat_ready : Ready s es t i w
    flat_ready = telling_ready h F.telling

    pub flat-fits : 2 * i < 18446744073709551616
    flat-fits = omega (arith, F.telling.upto, able_few (F.telling.scan (omega arith)).able)

    pub flat-room : 2 * i < length o
    flat-room = omega (arith, F.room, F.same)

    pub flat_next : (e : ℕ) → 2 * i + 1 < length (set o (2 * i) e)
    flat_next e = rw length-set (omega (arith, F.room, F.same))

    pub flat_more : {w' : List ℕ} {x : Found} {y : ℕ} → Next s es t i w w' x → y ≡ x.slip
        → Flattening s es t count w₀ w' o₀ (set (set o (2 * i) x.end) (2 * i + 1) y) (i + 1)
    flat_more {w'} {x} {y} n e =
        let a : x.end ≡ (get_or os i (O.occurrence 0 0)).end = ap (λ (f : Found). f.end) n.is in
        let b : y ≡ (get_or os i (O.occurrence 0 0)).which = e ∙ ap (λ (f : Found). f.slip) n.is in
        record {
          room = F.room;
          upto = omega arith;
          telling = telling_more h F.telling n;
          found_are =
              rw (a, b)
              (ap (λ (z : List ℕ). set (set z (2 * i) (get_or os i (O.occurrence 0 0)).end) (2 * i + 1) (get_or os i (O.occurrence 0 0)).which) F.found_are
              ∙ over_two (flat_found (take i os)) o₀ (2 * i) (get_or os i (O.occurrence 0 0)).end (get_or os i (O.occurrence 0 0)).which written-length
              (omega (arith, F.room))
              ∙ ap (λ (z : List ℕ). over z o₀) (sym (flat-suc os i (omega (arith, F.telling.upto)))));
          same = rw (length-set, length-set) F.same;
        }
