-- What the work area keeps of the meaning of a scan, while the scan is kept in its cells.
--   told_kept, able_kept, standing_kept == what stands where only cells from SCAN on have changed
--   fresh_standing  == the scan that has read nothing stands before the first occurrence
--   standing_keeps  == a scan that stands can be kept
-- All tables stand below SCAN, and their meaning depends on their cells alone.
use mathlib.Core.Path.{◌≡◌, refl, ◌∙◌}
use mathlib.Core.List.Memᴰ
use mathlib.Core.List.{List, []}
use Prim.Native.Nat.{ℕ, ◌+◌}
use native.Mathlib.Decide.{ℕ_discrete}
use native.Mathlib.Omega.{arith}
use Rattle.words.proofs.Members.{In}
use Rattle.trays.specs.Slips.{slips_of}
use Rattle.layout.specs.Layout.{TWIN, MARK, OUT, TALLY}
use Rattle.layout.specs.Tables.{cell, members}
use Rattle.layout.specs.Numbered.{patterns_in, SameBelow}
use Rattle.layout.proofs.Frames.{kept-lower, members_kept}
use Rattle.trie_links.proofs.Steps.{node_within, state_none}
use Rattle.trie_outputs.specs.Steps.Outputs.{Told}
use Rattle.layout.proofs.Heads.{threaded_same, member_few, num_most, headed_kept}
use Rattle.trie_scan.specs.declared.Scan.{Scan}
use Rattle.trie_scan.specs.Steps.Scanning.{Able, Pending, Standing, CanKeep, fresh}
use Rattle.layout.specs.Layout.{SCAN}
use Rattle.trie_scan.proofs.Occurs.{occurs_all}

-- the tables below SCAN
pub told_kept : {s es : List ℕ} {n nodes : ℕ} {w w' : List ℕ} → SameBelow SCAN w w' → Told s es n nodes w → Told s es n nodes w'
told_kept {n = n} {w = w} {w'} k T =
    let N = T.headed.automaton.branched.numbered in
    let f : members w' n ≡ members w n = members_kept n (omega (arith, N.few_members)) k in
    record {
      headed = headed_kept (kept-lower MARK (omega arith) k) T.headed;
      outs = rw f (λ v m. rw (k.cells (OUT + v) (omega (arith, num_most N v m, N.few_nodes))) (T.outs v m));
      tallies = rw f (λ v l. k.cells (TALLY + v) (omega (arith, N.all_nodes, N.few_nodes)) ∙ T.tallies v l);
    }

module _ {s es t : List ℕ} {n nodes : ℕ} {w w' : List ℕ} (k : SameBelow SCAN w w') where
  same-members : Able s es t n nodes w → members w' n ≡ members w n
  same-members A = members_kept n (omega (arith, A.told.headed.automaton.branched.numbered.few_members)) k

  pub able_kept : Able s es t n nodes w → Able s es t n nodes w'
  able_kept A = record { told = told_kept k A.told; all_slips = same-members A ∙ A.all_slips; short = A.short }

  pending_kept : Able s es t n nodes w → {node slip : ℕ} {xs : List ℕ}
      → Pending (slips_of s es) (members w n) w node slip xs → Pending (slips_of s es) (members w n) w' node slip xs
  pending_kept A {node} {slip} P =
      let N = A.told.headed.automaton.branched.numbered in
      let twin : (i : ℕ) → In i (members w n) → cell w' TWIN i ≡ cell w TWIN i = λ i m. k.cells (TWIN + i) (omega (arith, member_few N i m)) in
      record {
        small = P.small;
        none = P.none;
        some = λ h.
            let R = P.some h in
            record {
              others = R.others;
              is_node = R.is_node;
              threaded =
                  rw (twin slip (R.among slip (Memᴰ.head refl)))
                  (threaded_same (cell w TWIN) (cell w' TWIN) (cell w TWIN slip) R.others (λ i m. twin i (R.among i (Memᴰ.tail m))) R.threaded);
              among = R.among;
              list_is = rw (k.cells (OUT + node) (omega (arith, num_most N node R.is_node, N.few_nodes))) R.list_is;
            };
      }

  pub standing_kept : {x : Scan} → Standing s es t n nodes w x → Standing s es t n nodes w' x
  standing_kept S =
      let e = same-members S.able in
      record {
        able = able_kept S.able;
        upto = S.upto;
        state_is = rw e S.state_is;
        rest = S.rest;
        pending = rw e (pending_kept S.able S.pending);
        left = S.left;
      }

-- the scan that has read nothing stands before the first occurrence
pub fresh_standing : {s es t : List ℕ} {n nodes : ℕ} {w : List ℕ} → Able s es t n nodes w → Standing s es t n nodes w fresh
fresh_standing {s} {es} {t} {n} {nodes} {w} A =
    record {
      able = A;
      upto = omega arith;
      state_is = state_none (patterns_in s es n w) t;
      rest = [];
      pending = record { small = omega arith; none = λ e. refl; some = λ h. absurd (h refl) };
      left = occurs_all (slips_of s es) t;
    }

-- a scan that stands can be kept
pub standing_keeps : {s es t : List ℕ} {n nodes : ℕ} {w : List ℕ} {x : Scan} → Standing s es t n nodes w x → CanKeep w x
standing_keeps {x = x} S =
    let N = S.able.told.headed.automaton.branched.numbered in
    record {
      room = omega (arith, N.room);
      read = omega (arith, S.upto, S.able.short);
      state = omega (arith, node_within N S.state_is, N.few_nodes);
      node = S.pending.small;
      slip = elim (ℕ_discrete x.slip 0) [
        | yes z ↦ omega arith
        | no z ↦ omega (arith, member_few N x.slip ((S.pending.some z).among x.slip (Memᴰ.head refl)))
      ];
    }
