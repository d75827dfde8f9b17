use Rattle.shortest_core.proofs.SeekSteps.{many_finished, kept_can, seek_can, write_can, seek_same, seek_finished}
use mathlib.Core.Path.{refl}
use borrow.Author.Rules.{rules}
use Rattle.shortest_core.proofs.seek.Goals as goal

pub returns-then-k-gt-MAX_SHORTEST : goal.returns-then-k-gt-MAX_SHORTEST
returns-then-k-gt-MAX_SHORTEST c = many_finished _ _ _ c.requires _ _ c.build-nodes.ensures _ _ c.tell_kept-k.ensures c.args.settings _ _ (search rules) refl

pub kept_numbers-kept-requires : goal.kept_numbers-kept-requires
kept_numbers-kept-requires c = search kept_can

pub seek_order-order-requires : goal.seek_order-order-requires
seek_order-order-requires c =
    seek_can _ _ _ c.requires _ _ c.build-nodes.ensures _ _ c.tell_kept-k.ensures (search rules) _ c.kept_numbers-kept.ensures

pub write_order-requires : goal.write_order-requires
write_order-requires c =
    write_can _ _ _ c.requires _ _ c.build-nodes.ensures _ _ c.tell_kept-k.ensures (search rules) _
    c.kept_numbers-kept.ensures _ _ _ c.seek_order-order.ensures _ (search rules)

pub shape_of-work : goal.shape_of-work
shape_of-work c =
    seek_same _ _ _ c.requires _ _ c.build-nodes.ensures _ _ c.tell_kept-k.ensures (search rules) _
    c.kept_numbers-kept.ensures _ _ _ c.seek_order-order.ensures

pub returns : goal.returns
returns c =
    seek_finished _ _ _ c.requires _ _ c.build-nodes.ensures _ _ c.tell_kept-k.ensures (search rules) _
    c.kept_numbers-kept.ensures _ _ _ c.seek_order-order.ensures _ _ _ _ c.write_order.ensures
