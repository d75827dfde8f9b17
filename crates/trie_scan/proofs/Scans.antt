-- A scan of the text, letter by letter and occurrence by occurrence.
--   drop_tail, get_d_drop == a list from one place further on; its first
--   able-..           == what the state tells of the text
--   unread-..         == one letter more
--   Reaching          == letters are being read, none of them reported
--   reaching_unread   == the next of them may be read
--   reportable-..     == the occurrence that is reported, and the scan behind it
-- The occurrences that are left are those still to be reported at this place, then those that end at later letters. Where none is left here the next
-- letter gives its own; where one is, it is the first of all that are left.
use mathlib.Core.Path.{◌≡◌, refl, sym, ap, ap₂, ◌∙◌}
use mathlib.Core.List.{List, [], ◌∷◌, ◌++◌, map}
use Prim.Native.Nat.{ℕ, zero, suc, ◌+◌, ◌*◌, ◌≤◌, ◌<◌}
use native.Mathlib.Decide.{dec_lt}
use native.Mathlib.Numerals.{add-one}
use native.Mathlib.Omega.{arith}
use lib.ListN.{length, get_or, take, drop, length-drop}
use Rattle.words.specs.Lists.{tail_of, head_or}
use Rattle.words.proofs.Strings.{begins-refl}
use Rattle.trays.specs.Limits.{max_slips, max_text}
use Rattle.trays.specs.Slips.{slips_of, slip}
use Rattle.trays.proofs.Accepted.{accepted_tells, slips_count}
use Rattle.tables.specs.Tables.{Got}
use Rattle.matching.specs.Moves.{longest_ending}
use Rattle.matching.specs.Steps.Nodes.{string, IsNode}
use Rattle.matching.specs.Occurrences.{occurrence, ending_at, occurrences}
use Rattle.matching.proofs.Endings.{slip-some}
use Rattle.matching.proofs.Finds.{ending_of, ending_longest}
use Rattle.layout.specs.Layout.{TWIN, OUT}
use Rattle.layout.specs.Tables.{cell, members}
use Rattle.layout.specs.Numbered.{patterns_in, Numbered}
use Rattle.trie_links.specs.Links.{StepIs}
use Rattle.trie_links.proofs.Steps.{state_next}
use Rattle.trie_scan.specs.declared.Scan.{Scan}
use Rattle.trie_scan.specs.Steps.Scanning.{occurs_from, Able, Reporting, Pending, Standing, Unread, ReadOn, Reportable, Passed}
use Rattle.trie_scan.proofs.Occurs.{occurs_next, occurs_none, occurs_few}
use Rattle.trie_scan.proofs.Reports.{twin_next, twin_behind, reporting_room}

drop_tail : {A : Type 0} (i : ℕ) (xs : List A) → drop (suc i) xs ≡ tail_of (drop i xs)
drop_tail zero [] = refl
drop_tail zero (x ∷ xs) = refl
drop_tail (suc i) [] = refl
drop_tail (suc i) (x ∷ xs) = drop_tail i xs

get_d_drop : {A : Type 0} (i : ℕ) (xs : List A) (d : A) → get_or xs i d ≡ head_or d (drop i xs)
get_d_drop zero [] d = refl
get_d_drop zero (x ∷ xs) d = refl
get_d_drop (suc i) [] d = refl
get_d_drop (suc i) (x ∷ xs) d = get_d_drop i xs d

map_first : {A B : Type 0} (f : A → B) (xs : List A) (x : A) (zs : List A) (k : List B) → xs ≡ x ∷ zs → map f xs ++ k ≡ f x ∷ (map f (tail_of xs) ++ k)
map_first f xs x zs k e = rw e

module _ {s es t : List ℕ} {n nodes : ℕ} {w : List ℕ} (A : Able s es t n nodes w) where
  numbered : Numbered s es n nodes w
  numbered = A.told.headed.automaton.branched.numbered

  -- the slips that end a text, read off the state
  pub able_endings : {v : ℕ} (x : List ℕ) → IsNode (patterns_in s es n w) v (longest_ending x (patterns_in s es n w))
      → ending_at (slips_of s es) x ≡ ending_of (slips_of s es) (members w n) (string (patterns_in s es n w) v)
  able_endings x m =
      let ss = slips_of s es in
      ap (λ N. ending_of ss N x) (sym A.all_slips)
      ∙ ending_longest ss (members w n) (patterns_in s es n w) (λ k i. slip-some ss (members w n) (slip ss k) i (begins-refl (slip ss k))) x
      ∙ ap (ending_of ss (members w n)) (sym m.is)

  pub able_few : length (occurrences (slips_of s es) t) ≤ max_slips * max_text
  able_few =
      let ss = slips_of s es in
      let f : length ss ≤ max_slips = rw (slips_count s es) (accepted_tells s es numbered.accepted).few in
      omega (arith, occurs_few ss t f, A.short)

-- one letter more
module _ {s es t : List ℕ} {n nodes : ℕ} {w : List ℕ} {x : Scan} (U : Unread s es t n nodes w x) where
  module _ {c u d : ℕ} (b : c ≡ get_or t x.read 0) (i : StepIs (patterns_in s es n w) x.state c u d) where
    pub unread_read : {node slip : ℕ} →
        Pending (slips_of s es) (members w n) w node slip (ending_of (slips_of s es) (members w n) (string (patterns_in s es n w) u))
        → ReadOn s es t n nodes w x (record { done = x.done; read = x.read + 1; state = u; node = node; slip = slip })
    unread_read p =
        let S = U.standing in
        let ss = slips_of s es in
        let m = state_next t x.read (x.read + 1) U.more b refl i S.state_is in
        let none : S.rest ≡ [] = S.pending.none U.none in
        let next = occurs_next ss t x.read U.more in
        record {
          standing = record {
            able = S.able;
            upto = omega (arith, U.more);
            state_is = m;
            rest = ending_of ss (members w n) (string (patterns_in s es n w) u);
            pending = p;
            left =
                S.left
                ∙ ap (λ l. map (occurrence x.read) l ++ occurs_from ss t x.read) none
                ∙ rw add-one (next ∙ ap (λ l. map (occurrence (suc x.read)) l ++ occurs_from ss t (suc x.read))
                (able_endings S.able (take (suc x.read) t) (rw add-one at m)));
          };
          done = refl;
          read = refl;
        }

-- letters until there is something to report
pub record Reaching (s es t : List ℕ) (n nodes : ℕ) (w : List ℕ) (x y : Scan) : Type 0 where
  pub standing : Standing s es t n nodes w y
  pub done : y.done ≡ x.done
  pub more : x.done < length (occurrences (slips_of s es) t)

module _ {s es t : List ℕ} {n nodes : ℕ} {w : List ℕ} {x y : Scan} (R : Reaching s es t n nodes w x y) where
  pub reaching_unread : y.slip ≡ 0 → Unread s es t n nodes w y
  reaching_unread z =
      let S = R.standing in
      let ss = slips_of s es in
      record {
        standing = S;
        none = z;
        more = elim (dec_lt y.read (length t)) [
          | yes h ↦ h
          | no h ↦
              let e : drop y.done (occurrences ss t) ≡ [] =
              S.left ∙ ap₂ (λ l k. map (occurrence y.read) l ++ k) (S.pending.none z) (occurs_none ss t y.read (omega arith)) in
              absurd (omega (arith, R.more, R.done, ap length e, length-drop y.done (occurrences ss t)))
        ];
      }

-- the occurrence that is reported
module _ {s es t : List ℕ} {n nodes : ℕ} {w : List ℕ} {x : Scan} (P : Reportable s es t n nodes w x) where
  here : Reporting (slips_of s es) (members w n) w x.node x.slip P.standing.rest
  here = P.standing.pending.some P.some

  left_here : drop x.done (occurrences (slips_of s es) t) ≡ occurrence x.read x.slip
      ∷ (map (occurrence x.read) (tail_of P.standing.rest) ++ occurs_from (slips_of s es) t x.read)
  left_here = P.standing.left ∙ map_first (occurrence x.read) P.standing.rest x.slip _ _ here.list_is

  pub reportable_found : get_or (occurrences (slips_of s es) t) x.done (occurrence 0 0) ≡ occurrence x.read x.slip
  reportable_found = get_d_drop x.done (occurrences (slips_of s es) t) (occurrence 0 0) ∙ ap (head_or (occurrence 0 0)) left_here

  reportable_more : x.done < length (occurrences (slips_of s es) t)
  reportable_more = omega (arith, ap length left_here, length-drop x.done (occurrences (slips_of s es) t))

  pub reportable_fits : x.done + 1 < 18446744073709551616
  reportable_fits = omega (arith, reportable_more, able_few P.standing.able)

  pub reportable_room : TWIN + x.slip < length w
  reportable_room = reporting_room P.standing.able.told here

  module _ {twin : ℕ} (g : Got w TWIN x.slip twin) where
    passed : {node i : ℕ} → Pending (slips_of s es) (members w n) w node i (tail_of P.standing.rest)
        → Passed s es t n nodes w x (record { done = x.done + 1; read = x.read; state = x.state; node = node; slip = i })
    passed p =
        let S = P.standing in
        record {
          standing = record {
            able = S.able;
            upto = S.upto;
            state_is = S.state_is;
            rest = tail_of S.rest;
            pending = p;
            left = rw add-one (drop_tail x.done (occurrences (slips_of s es) t) ∙ ap tail_of left_here);
          };
          done = refl;
        }

    pub reportable_twin : (twin ≡ 0 → ⊥) →
        Passed s es t n nodes w x (record { done = x.done + 1; read = x.read; state = x.state; node = x.node; slip = twin })
    reportable_twin z = passed (twin_next P.standing.able.told here g z)

    pub reportable_behind : {node i : ℕ} → twin ≡ 0
        → Pending (slips_of s es) (members w n) w node i (ending_of (slips_of s es) (members w n) (string (patterns_in s es n w) (cell w OUT x.node)))
        → Passed s es t n nodes w x (record { done = x.done + 1; read = x.read; state = x.state; node = node; slip = i })
    reportable_behind z p = passed (twin_behind P.standing.able.told here g z p)
