use borrow.Author.Rules.{rules, lives}
use Rattle.std.proofs.iter.Serving.{serving}
use mathlib.Core.Path.{refl}
use Rattle.kept_lists.proofs.Stages.{listed}
use Rattle.kept_lists.proofs.fill_lists.Goals as goal

pub fill_kind-requires : goal.fill_kind-requires
fill_kind-requires c κs within = (search (lives, within) depth 24 fits 20000, (search rules, (refl, (grind serving, grind serving))))

pub fill_kind-requires-2 : goal.fill_kind-requires-2
fill_kind-requires-2 c κs within = (search (lives, within) depth 24 fits 20000, (search rules, (refl, (grind serving, grind serving))))

pub returns : goal.returns
returns c =
    listed c.tell_kept-k.ensures c.fill_kind.ensures c.fill_kind-2.ensures
