-- Finding up to where occurrences are stored.
--   prepared == the automaton with its output links and tallies
--   begin-..               == moves and occurrences counted, 14 decided, and a scan that has read nothing
use mathlib.Core.Path.{◌≡◌, refl, sym, ap, subst, ◌∙◌}
use mathlib.Core.List.{List, []}
use Prim.Native.Nat.{ℕ, ◌≤◌, ◌<◌}
use native.Mathlib.Omega.{arith}
use lib.ListN.{length}
use Rattle.trays.specs.Limits.{max_slips}
use Rattle.trays.specs.Slips.{slips_of}
use Rattle.trays.specs.Faults.{refusal}
use Rattle.matching.proofs.States.{few_from}
use Rattle.layout.specs.Numbered.{Numbered}
use Rattle.answers.specs.WorkArea.{WorkKept}
use Rattle.layout.proofs.Frames.{members_kept}
use Rattle.trie_build.specs.Steps.Built.{Built}
use Rattle.trie_heads.specs.Steps.Heads.{HeadsFilled}
use Rattle.trie_outputs.specs.Steps.Outputs.{OutputsFilled}
use Rattle.trie_scan.specs.declared.TextCounts.{TextCounts}
use Rattle.trie_scan.specs.declared.Scan.{Scan}
use Rattle.trie_scan.specs.Steps.Scanning.{Able, TextCountsAre, Loadable, Standing, fresh, scan_in, ScanStarted}
use Rattle.trie_scan.proofs.Scans.{able_few}
use Rattle.trie_scan.proofs.Keeping.{standing_kept, fresh_standing}
use Rattle.answers.specs.declared.Search.{Search}
use Rattle.answers.specs.Finding.{find_before, search_refused}
use Rattle.find_core.specs.Steps.Searching.{Clear, Prepared, CoreSays}
use Rattle.find_core.proofs.Checks.{silent_short, fault_list, fault_none}
use Rattle.find_core.proofs.Answering.{answer_found, core_refused}

module _ {s es w w₁ w₂ : List ℕ} {nodes : ℕ} (b : Built s es w nodes w₁) (h : HeadsFilled s es (length es) nodes w₁ w₂) where
  pub prepared : {w₃ : List ℕ} → OutputsFilled s es (length es) nodes w₂ w₃ → Prepared s es w nodes w₃
  prepared o =
      let few : length es ≤ max_slips = b.automaton.branched.numbered.few_members in
      record {
        told = o.told;
        all_slips = members_kept (length es) (omega (arith, few)) o.below ∙ members_kept (length es) (omega (arith, few)) h.below ∙ b.all_slips;
        same = o.below.same ∙ h.below.same ∙ b.same;
      }

module _ {s es t w w₁ : List ℕ} {nodes : ℕ} (h : Clear s es t w) (p : Prepared s es w nodes w₁) where
  numbered : Numbered s es (length es) nodes w₁
  numbered = p.told.headed.automaton.branched.numbered

  pub begin_able : Able s es t (length es) nodes w₁
  begin_able = record { told = p.told; all_slips = p.all_slips; short = silent_short h }

  pub begin_loads : Loadable w₁
  begin_loads = record { room = omega (arith, numbered.room) }

  pub begin_few : nodes < 65536
  begin_few = omega (arith, numbered.few_nodes)

  kept_so : {w₂ : List ℕ} → length w₂ ≡ length w₁ → WorkKept (find_before s es t (length w)) w w₂
  kept_so e = record { same = e ∙ p.same; untouched = λ u. absurd (omega (arith, h.silent)) }

  module _ {c : TextCounts} (r : TextCountsAre s es t c) where
    pub count_fits : c.found < 4294967296
    count_fits = omega (arith, r.found_are, able_few begin_able)

    pub moves_fit : c.moves < 4294967296
    moves_fit = omega (arith, r.moves_are, few_from (slips_of s es) [] t 0, silent_short h)

    module _ {room : ℕ} where
      pub begin_refused : {q : Search} → room < c.found → q ≡ search_refused (refusal 14 c.found) → CoreSays s es t w w₁ room q
      begin_refused {q} l e =
          rw e (core_refused (refusal 14 c.found) (omega arith)
          (fault_list s es t (length w) room h.silent (omega (arith, r.found_are)) ∙ ap (refusal 14) (sym r.found_are)) (kept_so refl))

      pub begin_started : {w₂ : List ℕ} → c.found ≤ room → ScanStarted w₁ nodes w₂
          → CoreSays s es t w w₂ room (record { number = 0; detail = 0; moves = c.moves; count = c.found })
      begin_started {w₂} l g =
          let none = fault_none s es t (length w) room h.silent (omega (arith, r.found_are)) in
          let stands : Standing s es t (length es) nodes w₂ fresh = standing_kept g.below (fresh_standing begin_able) in
          record {
            answered = record {
              answer-is = (λ i. record { number = 0; detail = 0; moves = r.moves_are i; count = r.found_are i })
                  ∙ sym (answer_found s es t (length w) room (ap (λ f. f.number) none));
              few_moves = omega (arith, r.moves_are, few_from (slips_of s es) [] t 0);
              work_is = kept_so g.below.same;
            };
            fits = l;
            enough = record {
              upto = omega (arith, r.found_are);
              scan = λ n. subst (λ (k : ℕ). Standing s es t (length es) k w₂ (scan_in w₂ 0)) (sym g.nodes_are)
                  (subst (λ (x : Scan). Standing s es t (length es) nodes w₂ x) (sym g.scan-is) stands);
            };
          }
