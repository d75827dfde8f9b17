-- The tables one after another: what each leaves of those before.
use mathlib.Core.Path.{◌≡◌}
use mathlib.Core.List.{List}
use Prim.Native.Nat.{ℕ, ◌+◌, ◌-◌}
use native.Mathlib.Omega.{arith}
use lib.ListN.{length}
use Rattle.words.specs.Words.{begins}
use Rattle.words.proofs.Strings.{begins-length}
use Rattle.words.proofs.Members.{in_those}
use Rattle.trays.specs.Slips.{slips_of, slip, start_of}
use Rattle.matching.specs.Steps.Nodes.{string}
use Rattle.matching.proofs.NodeLaws.{node_some}
use Rattle.layout.specs.Layout.{HEAD, STARTS, STARTS_NEXT, ENDS}
use Rattle.layout.specs.Numbered.{patterns_in, SameBelow}
use Rattle.layout.specs.Staging.{kept_in}
use Rattle.layout.proofs.Frames.{kept-lower, members_kept}
use Rattle.kept_slips.specs.Steps.Kept.{KeptFound, KeptTold}
use Rattle.kept_lists.specs.Steps.KeptLists.{beginnings, endings, with_affix, AffixListsAre, AffixFilled, ListsFilled}
use Rattle.layout.proofs.Heads.{threaded_kept, num_most}
use Rattle.trie_heads.proofs.Keeping.{kept_trans}
use Rattle.kept_lists.proofs.KeptMembers.{kept_member, kept_same}

-- what is written behind STARTS_NEXT leaves its lists as they are
starts_kept : {s es : List ℕ} {n k nodes : ℕ} {w w' : List ℕ} → KeptFound s es n k nodes w → SameBelow ENDS w w' →
    AffixListsAre beginnings s es n w (kept_in w k) → AffixListsAre beginnings s es n w' (kept_in w' k)
starts_kept {s} {es} {n} {k} {nodes} {w} {w'} S b I =
    let N = S.automaton.branched.numbered in
    let ps = patterns_in s es n w in
    rw (members_kept n (omega (arith, N.few_members)) b, kept_same S.few_kept (kept-lower STARTS (omega arith) b))
    (λ v m.
    let x = string ps v in
    threaded_kept b STARTS v STARTS_NEXT (λ r. start_of es r + (length x - 1)) (with_affix beginnings (slips_of s es) x (kept_in w k))
    (omega (arith, num_most N v m, N.few_nodes))
    (λ r q.
    let (i, t) = in_those (λ r. begins x (slip (slips_of s es) r)) (kept_in w k) q in
    let o = kept_member S r i in
    omega (arith, (node_some ps v m).0, begins-length x (slip (slips_of s es) r) t, o.size, o.fits))
    (I v m))

pub listed : {s es : List ℕ} {n k nodes : ℕ} {w w₁ w₂ w₃ : List ℕ} → KeptTold s es n nodes w k w₁ →
    AffixFilled beginnings s es n k nodes w₁ w₂ → AffixFilled endings s es n k nodes w₂ w₃ → ListsFilled s es n nodes w k w₃
listed {s} {es} {n} {w₃ = w₃} K S E =
    record {
      staged = E.staged;
      all = K.all;
      starts = λ v d m q.
          let z : length (string (patterns_in s es n w₃) v) - 1 ≡ d = omega arith in
          rw z at (starts_kept S.staged E.below S.lists v m);
      ends = E.lists;
      below = kept_trans (kept_trans K.below (kept-lower HEAD (omega arith) S.below)) (kept-lower HEAD (omega arith) E.below);
    }
