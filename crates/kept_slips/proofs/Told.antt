-- The tables from which the kept members are told, one after another: what each leaves of those before.
use mathlib.Core.Path.{ap, ◌∙◌}
use mathlib.Core.List.{List}
use Prim.Native.Nat.{ℕ}
use native.Mathlib.Omega.{arith}
use lib.ListN.{length}
use Rattle.trays.specs.Slips.{slips_of}
use Rattle.trays.specs.Aside.{kept}
use Rattle.layout.specs.Layout.{HEAD}
use Rattle.layout.proofs.Frames.{kept-lower, members_kept}
use Rattle.trie_heads.specs.Steps.Heads.{HeadsFilled}
use Rattle.trie_heads.proofs.Keeping.{kept_trans}
use Rattle.kept_slips.specs.Steps.Kept.{MarksFilled, KeptFilled, KeptTold}

pub told :
    {s es : List ℕ} {n k nodes : ℕ} {w w₁ w₂ w₃ : List ℕ}
    → HeadsFilled s es n nodes w w₁ → MarksFilled s es n nodes w₁ w₂ → KeptFilled s es n nodes w₂ k w₃ → KeptTold s es n nodes w k w₃
told {s} {es} {n} H M K =
    let N = M.marked.headed.automaton.branched.numbered in
    let two = kept_trans H.below (kept-lower HEAD (omega arith) M.below) in
    record {
      staged = K.staged;
      all = K.all ∙ ap (λ m. length (kept (slips_of s es) m)) (members_kept n (omega (arith, N.few_members)) two);
      below = kept_trans two (kept-lower HEAD (omega arith) K.below);
    }
