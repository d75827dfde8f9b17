-- The occurrences of a text, letter by letter.
--   slips_all          == the letters of all members are the slips, where all slips are members
--   occurs_all         == all occurrences are those behind 0 letters
--   occurs_next        == the occurrences behind e letters: those that end at the next letter, then those behind it
--   occurs_none        == behind the whole text there are none
--   ending_most        == at most as many slips end at one place as there are
--   occurs_few         == so that the occurrences are at most 200 for each letter
use mathlib.Core.Path.{◌≡◌, refl, ap}
use mathlib.Core.List.{List, [], ◌∷◌, ◌++◌, map}
use Prim.Native.Nat.{ℕ, zero, suc, ◌-◌, ◌*◌, ◌≤◌, ◌<◌}
use native.Mathlib.Omega.{arith}
use lib.ListN.{length, take, length-append, length-map}
use lib.Seq.{get_or-append_seam, append_snoc}
use Rattle.words.proofs.Runs.{length-up_from}
use Rattle.words.specs.Lists.{each, up_from}
use Rattle.trays.specs.Limits.{max_slips}
use Rattle.trays.specs.Slips.{slip, numbers}
use Rattle.matching.specs.Occurrences.{occurrence, ending_at, occurrences}
use Rattle.trie_outputs.proofs.Outs.{ending_most}
use Rattle.trie_scan.specs.Steps.Scanning.{occurs_from}

slips_from_lem : (ys xs : List (List ℕ)) → map (slip (ys ++ xs)) (up_from (suc (length ys)) (length xs)) ≡ xs
slips_from_lem ys [] = refl
slips_from_lem ys (x ∷ xs) =
    let n : length (ys ++ (x ∷ [])) ≡ suc (length ys) = rw length-append (omega arith) in
    rw (get_or-append_seam ys x xs []) (ap (λ l. x ∷ l) (rw (append_snoc ys x xs, n) at (slips_from_lem (ys ++ (x ∷ [])) xs)))

pub slips_all : (ss : List (List ℕ)) → map (slip ss) (numbers ss) ≡ ss
slips_all ss = slips_from_lem [] ss

module _ (ss : List (List ℕ)) (t : List ℕ) where
  pub occurs_all : occurrences ss t ≡ occurs_from ss t 0
  occurs_all = let q : length t - 0 ≡ length t = omega arith in rw q

  pub occurs_next : (e : ℕ) → e < length t → occurs_from ss t e ≡ map (occurrence (suc e)) (ending_at ss (take (suc e) t)) ++ occurs_from ss t (suc e)
  occurs_next e h = let q : length t - e ≡ suc (length t - suc e) = omega arith in rw q

  pub occurs_none : (e : ℕ) → length t ≤ e → occurs_from ss t e ≡ []
  occurs_none e h = let q : length t - e ≡ 0 = omega arith in rw q

  module _ (few : length ss ≤ max_slips) where
    pub ending_few : (x : List ℕ) → length (ending_at ss x) ≤ max_slips
    ending_few x = omega (arith, ending_most ss (numbers ss) x, length-up_from 1 (length ss))

    each_few : (i n : ℕ) → length (each (λ p. map (occurrence p) (ending_at ss (take p t))) (up_from i n)) ≤ max_slips * n
    each_few i zero = omega arith
    each_few i (suc n) =
        let xs = ending_at ss (take i t) in
        omega (
          arith,
          length-append (map (occurrence i) xs) (each (λ p. map (occurrence p) (ending_at ss (take p t))) (up_from (suc i) n)),
          length-map xs (occurrence i),
          ending_few (take i t),
          each_few (suc i) n,
        )

    pub occurs_few : length (occurrences ss t) ≤ max_slips * length t
    occurs_few = each_few 1 (length t)
