-- Occurrences told one after another.
--   reached-..   == the occurrence that is reached fits its record
--   passed_keeps == a scan that went past an occurrence can be kept
--   ready-..     == occurrence i is read off the scan that the work area keeps, and the scan behind it is kept
--   Telling      == i of n occurrences are told
--   telling-..   == the turns of a loop that tells them
use mathlib.Core.Path.{◌≡◌, refl, sym, ap, subst, ◌∙◌}
use mathlib.Core.List.{List}
use Prim.Native.Nat.{ℕ, ◌+◌, ◌≤◌, ◌<◌}
use native.Mathlib.Omega.{arith}
use lib.ListN.{length, get_or}
use Rattle.trays.specs.Slips.{slips_of}
use Rattle.tables.specs.Tables.{Got}
use Rattle.matching.specs.Occurrences as O
use Rattle.matching.specs.Occurrences.{occurrences}
use Rattle.layout.specs.Tables.{cell}
use Rattle.layout.specs.Numbered.{Numbered}
use Rattle.layout.proofs.Frames.{kept-lower}
use Rattle.trie_scan.specs.declared.Scan.{Scan}
use Rattle.trie_scan.specs.Steps.Scanning.{Standing, Ahead, Reached, Reportable, Passed, scan_in, CanKeep, Loadable, Keeps}
use Rattle.layout.specs.Layout.{SCAN}
use Rattle.trie_scan.proofs.Scans.{reportable_found}
use Rattle.trie_scan.proofs.Keeping.{standing_kept, standing_keeps}
use Rattle.answers.specs.declared.Found.{Found}
use Rattle.answers.specs.Finding.{found_record}
use Rattle.find_core.specs.Steps.Searching.{scan_at, Ready, Next, Enough, Left}

module _ {s es t : List ℕ} {n nodes : ℕ} {w : List ℕ} {x y : Scan} (q : Reached s es t n nodes w x y) where
  pub reached_end : y.read < 4294967296
  reached_end = omega (arith, (standing_keeps q.standing).read)

  pub reached_slip : y.slip < 65536
  reached_slip = (standing_keeps q.standing).slip

pub passed_keeps : {s es t : List ℕ} {n nodes : ℕ} {w : List ℕ} {y z : Scan} → Passed s es t n nodes w y z → CanKeep w z
passed_keeps p = standing_keeps p.standing

module _ {s es t w : List ℕ} {i : ℕ} (R : Ready s es t i w) where
  numbered : Numbered s es (length es) (cell w SCAN 0) w
  numbered = R.scan.able.told.headed.automaton.branched.numbered

  pub ready_count : SCAN + 0 < length w
  ready_count = omega (arith, numbered.room)

  pub ready_loads : Loadable w
  ready_loads = record { room = omega (arith, numbered.room) }

  module _ {nodes : ℕ} {x : Scan} (g : Got w SCAN 0 nodes) (e : x ≡ scan_in w i) where
    pub ready_ahead : Ahead s es t (length es) nodes w x
    ready_ahead =
        subst (λ (k : ℕ). Ahead s es t (length es) k w x) (sym g.is)
        (subst (λ (y : Scan). Ahead s es t (length es) (cell w SCAN 0) w y) (sym e) (record { standing = R.scan; more = R.more }))

    module _ {y : Scan} (q : Reached s es t (length es) nodes w x y) where
      pub ready_reports : Reportable s es t (length es) nodes w y
      ready_reports = record { standing = q.standing; some = q.some }

      done-is : y.done ≡ i
      done-is = q.done ∙ ap (λ (v : Scan). v.done) e

      pub ready_told : {z : Scan} {w' : List ℕ} → Passed s es t (length es) nodes w y z → Keeps w z w' →
          Next s es t i w w' (record { end = y.read; slip = y.slip })
      ready_told {z} {w'} p k =
          let os = occurrences (slips_of s es) t in
          let same_count : cell w' SCAN 0 ≡ nodes = k.below.cells (SCAN + 0) (omega arith) ∙ sym g.is in
          let scan-is : scan_in w' (i + 1) ≡ z = ap (scan_in w') (sym (p.done ∙ ap (λ (d : ℕ). d + 1) done-is)) ∙ k.scan-is in
          let stands : Standing s es t (length es) nodes w' z = standing_kept (kept-lower SCAN (omega arith) k.below) p.standing in
          record {
            is = sym (ap found_record (ap (λ (d : ℕ). get_or os d (O.occurrence 0 0)) (sym done-is) ∙ reportable_found ready_reports));
            scan = subst (λ (c : ℕ). Standing s es t (length es) c w' (scan_in w' (i + 1))) (sym same_count)
                (subst (λ (v : Scan). Standing s es t (length es) nodes w' v) (sym scan-is) stands);
            same = k.below.same;
          }

-- i of n occurrences are told
pub record Telling (s es t : List ℕ) (n : ℕ) (w₀ : List ℕ) (i : ℕ) (w : List ℕ) : Type 0 where
  pub upto : n ≤ length (occurrences (slips_of s es) t)
  pub scan : 1 ≤ n → scan_at s es t i w
  pub left : Left s es t i w₀ w

pub telling_start : {s es t : List ℕ} {n : ℕ} {w : List ℕ} → Enough s es t n w → Telling s es t n w 0 w
telling_start e = record { upto = e.upto; scan = e.scan; left = record { same = refl; none = λ z. refl } }

module _ {s es t : List ℕ} {n : ℕ} {w₀ : List ℕ} {i : ℕ} {w : List ℕ} (h : i < n) (T : Telling s es t n w₀ i w) where
  pub telling_ready : Ready s es t i w
  telling_ready = record { scan = T.scan (omega arith); more = omega (arith, T.upto) }

  pub telling_more : {w' : List ℕ} {r : Found} → Next s es t i w w' r → Telling s es t n w₀ (i + 1) w'
  telling_more x =
      record {
        upto = T.upto;
        scan = λ l. x.scan;
        left = record { same = x.same ∙ T.left.same; none = λ z. absurd (omega arith) };
      }
