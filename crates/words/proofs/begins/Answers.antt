use mathlib.Core.Path.{◌∙◌}
use Rattle.words.proofs.OverlapLoop.{pointwise-begins}
use Rattle.words.proofs.begins.Goals as goal

pub returns : goal.returns
returns c = c.starts_with-2.ensures.value ∙ pointwise-begins c.args.a.now c.args.b.now
