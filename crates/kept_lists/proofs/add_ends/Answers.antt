use Rattle.kept_lists.proofs.EndLoop.{falling_end, falling_place, falling_letters, falling_fail, falling_start}
use Rattle.kept_lists.proofs.EndLoop.{falling_level, falling_skip, falling_can, falling_more, falling_done, falling_all}
use Rattle.kept_lists.proofs.AffixLoop.{added-some, added-most}
use mathlib.Core.Path.{refl}
use native.Mathlib.Omega.{arith}
use Rattle.kept_lists.proofs.add_ends.Goals as goal

pub slip_span-span-requires : goal.slip_span-span-requires
slip_span-span-requires c = (search added-some, search added-most)

pub overflow_sub-span : goal.overflow_sub-span
overflow_sub-span c = search falling_end

pub at-whole-requires : goal.at-whole-requires
at-whole-requires c = search falling_place

pub at-u-requires : goal.at-u-requires
at-u-requires c = search falling_fail

pub overflow_step-d : goal.overflow_step-d
overflow_step-d c = search falling_letters

pub loop-d-init : goal.loop-d-init
loop-d-init c =
    falling_start c.requires c.at-i.ensures _ c.slip_span-span.ensures c.at-whole.ensures c.at-u.ensures

pub at-requires : goal.at-requires
at-requires c = falling_level c.requires c.at-i.ensures c.loop-d.invariant (omega (arith, c.if-u-eq0.false))

pub loop-d-preserved-then-u-at : goal.loop-d-preserved-then-u-at
loop-d-preserved-then-u-at c =
    falling_skip c.requires c.at-i.ensures c.loop-d.invariant (omega (arith, c.if-u-eq0.false)) c.at.ensures _ c.if-u-at.true refl

pub push-requires : goal.push-requires
push-requires c =
    falling_can c.requires c.at-i.ensures c.loop-d.invariant (omega (arith, c.if-u-eq0.false)) c.at.ensures c.if-u-at.false

pub loop-d-preserved : goal.loop-d-preserved
loop-d-preserved c =
    falling_more c.requires c.at-i.ensures c.loop-d.invariant (omega (arith, c.if-u-eq0.false)) c.at.ensures c.if-u-at.false c.push.ensures _
    c.at-u-in-loop-d.ensures refl

pub returns-after-loop-d : goal.returns-after-loop-d
returns-after-loop-d c =
    falling_all c.requires c.at-i.ensures c.loop-d.invariant
    (falling_done c.requires c.at-i.ensures c.loop-d.invariant (omega (arith, c.loop-d-test.false)))

pub returns-then-u-eq0 : goal.returns-then-u-eq0
returns-then-u-eq0 c =
    falling_all c.requires c.at-i.ensures c.loop-d.invariant (omega (arith, c.if-u-eq0.true))
