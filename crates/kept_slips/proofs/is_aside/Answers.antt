use mathlib.Core.Path.{sym, ◌∙◌}
use native.Mathlib.Omega.{arith}
use borrow.Author.Tests.{eqb-true, eqb-false, ltb-false}
use Rattle.kept_slips.proofs.AsideTest.{aside_kid, aside_mark, aside_head}
use Rattle.kept_slips.proofs.is_aside.Goals.{then-at, else-at}
use Rattle.kept_slips.proofs.is_aside.Goals as goal

pub returns-then-at-eq1 : goal.returns-then-at-eq1
returns-then-at-eq1 c =
    elim c.if-at.branch [
      | then-at w ↦ c.if-at-eq1.true ∙ aside_kid c.requires c.node_of-f.ensures c.at.ensures c.at-2.ensures w.if-at.true
      | else-at w ↦ c.if-at-eq1.true
          ∙ aside_mark c.requires c.node_of-f.ensures w.at-else-at.ensures (eqb-true w.at-else-at.result 1 (sym w.value-is ∙ c.if-at-eq1.true))
    ]

pub returns-else-at-eq1 : goal.returns-else-at-eq1
returns-else-at-eq1 c =
    elim c.if-at.branch [
      | then-at w ↦ absurd (omega (arith, w.if-at.true, ltb-false c.at.result c.at-2.result (sym w.value-is ∙ c.if-at-eq1.false)))
      | else-at w ↦
          aside_head c.requires c.node_of-f.ensures c.at.ensures c.at-2.ensures w.if-at.false w.at-else-at.ensures
          (eqb-false w.at-else-at.result 1 (sym w.value-is ∙ c.if-at-eq1.false)) c.at-else-at-eq1.ensures
    ]
