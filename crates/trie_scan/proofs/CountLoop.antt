-- Moves and occurrences of a text, counted letter by letter.
--   Counting .. state moves found read   == so many of each in the letters read so far, after which the automaton is in that state
--   counting-..                          == the turns of the loop
use mathlib.Core.Path.{◌≡◌, refl, sym, ap, ap₂, ◌∙◌}
use mathlib.Core.List.{List, [], map}
use Prim.Native.Nat.{ℕ, suc, ◌+◌, ◌*◌, ◌≤◌, ◌<◌}
use native.Mathlib.Omega.{arith}
use lib.ListN.{length, get_or, take, drop, length-append, length-map, drop_of_length-le}
use Rattle.trays.specs.Limits.{max_text}
use Rattle.trays.specs.Slips.{slips_of, slip}
use Rattle.tables.specs.Tables.{Got}
use Rattle.matching.specs.Moves as Moves
use Rattle.matching.specs.Steps.Nodes.{string, IsNode}
use Rattle.matching.specs.Occurrences as Occurrences
use Rattle.matching.specs.Occurrences.{ending_at, occurrences}
use Rattle.matching.proofs.States.{few_from}
use Rattle.matching.proofs.NodeLaws.{node_root}
use Rattle.layout.specs.Layout.{TALLY}
use Rattle.layout.specs.Numbered.{patterns_in}
use Rattle.trie_links.specs.Links.{StepIs}
use Rattle.trie_links.proofs.Steps.{state_none, state_next, moves_next, moves_least}
use Rattle.trie_scan.specs.Steps.Scanning.{occurs_from, Able, TextCountsAre}
use Rattle.trie_scan.proofs.Occurs.{slips_all, occurs_all, occurs_next, occurs_none}
use Rattle.trie_scan.proofs.Scans.{able_endings, able_few}

pub record Counting (s es t : List ℕ) (n nodes : ℕ) (w : List ℕ) (state moves found read : ℕ) : Type 0 where
  pub able : Able s es t n nodes w
  pub upto : read ≤ length t
  pub state_is : IsNode (patterns_in s es n w) state (Moves.longest_ending (take read t) (patterns_in s es n w))
  pub moves_are : Moves.moves_from (patterns_in s es n w) (string (patterns_in s es n w) state) (drop read t) moves ≡ Moves.moves (slips_of s es) t
  pub found_are : found + length (occurs_from (slips_of s es) t read) ≡ length (occurrences (slips_of s es) t)

module _ {s es t : List ℕ} {n nodes : ℕ} {w : List ℕ} where
  patterns_all : Able s es t n nodes w → patterns_in s es n w ≡ slips_of s es
  patterns_all A = ap (λ N. map (slip (slips_of s es)) N) A.all_slips ∙ slips_all (slips_of s es)

  pub counting_start : Able s es t n nodes w → Counting s es t n nodes w 0 0 0 0
  counting_start A =
      let ps = patterns_in s es n w in
      record {
        able = A;
        upto = omega arith;
        state_is = state_none ps t;
        moves_are = ap₂ (λ qs y. Moves.moves_from qs y t 0) (patterns_all A) (node_root ps);
        found_are = omega (arith, ap length (occurs_all (slips_of s es) t));
      }

  module _ {state moves found read : ℕ} (C : Counting s es t n nodes w state moves found read) where
    -- counted so far is no more than the whole
    moves_few : (k v : ℕ) (x : List ℕ) → Moves.moves_from (patterns_in s es n w) x (drop v t) k ≡ Moves.moves (slips_of s es) t → k ≤ 2 * max_text
    moves_few k v x e =
        omega (arith, moves_least (patterns_in s es n w) x (drop v t) k, few_from (slips_of s es) [] t 0, C.able.short)

    pub counting_all : length t ≤ read → TextCountsAre s es t (record { moves = moves; found = found })
    counting_all h =
        let ss = slips_of s es in
        record {
          moves_are = ap (λ l. Moves.moves_from (patterns_in s es n w) (string (patterns_in s es n w) state) l moves) (sym (drop_of_length-le t h)) ∙ C.moves_are;
          found_are = omega (arith, C.found_are, ap length (occurs_none ss t read h));
        }

    module _ {c u d : ℕ} (h : read < length t) (b : c ≡ get_or t read 0) (i : StepIs (patterns_in s es n w) state c u d) where
      next_moves : Moves.moves_from (patterns_in s es n w) (string (patterns_in s es n w) u) (drop (read + 1) t) (moves + (1 + d)) ≡ Moves.moves (slips_of s es) t
      next_moves =
          let e : moves + (1 + d) ≡ moves + suc d = omega arith in
          rw e (sym (moves_next t read (read + 1) h b refl i moves) ∙ C.moves_are)

      pub counting_drop : 1 + d < 18446744073709551616
      counting_drop = omega (arith, moves_few (moves + (1 + d)) (read + 1) _ next_moves)

      pub counting_moves : moves + (1 + d) < 18446744073709551616
      counting_moves = omega (arith, moves_few (moves + (1 + d)) (read + 1) _ next_moves)

      module _ {k : ℕ} (g : Got w TALLY u k) where
        next_found : (found + k) + length (occurs_from (slips_of s es) t (read + 1)) ≡ length (occurrences (slips_of s es) t)
        next_found =
            let ss = slips_of s es in
            let m = state_next t read (read + 1) h b refl i C.state_is in
            let xs = ending_at ss (take (suc read) t) in
            let e : read + 1 ≡ suc read = omega arith in
            rw e (omega (
              arith,
              C.found_are,
              ap length (occurs_next ss t read h),
              length-append (map (Occurrences.occurrence (suc read)) xs) (occurs_from ss t (suc read)),
              length-map xs (Occurrences.occurrence (suc read)),
              ap length (able_endings C.able (take (suc read) t) (rw e at m)),
              g.is,
              C.able.told.tallies u i.state.inside,
            ))

        pub counting_found : found + k < 18446744073709551616
        counting_found = omega (arith, next_found, able_few C.able)

        pub counting_more : (read' : ℕ) → read' ≡ read + 1 → Counting s es t n nodes w u (moves + (1 + d)) (found + k) read'
        counting_more read' e =
            rw e (record {
              able = C.able;
              upto = omega arith;
              state_is = state_next t read (read + 1) h b refl i C.state_is;
              moves_are = next_moves;
              found_are = next_found;
            })
