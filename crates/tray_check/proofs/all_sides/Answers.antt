use Rattle.std.proofs.Common.{rules, tests}
use Rattle.std.proofs.lemmas.Iterator.{YieldsList-from_slice}
use Rattle.std.proofs.lemmas.Iterator.Search.{all_from_yields_List}
use Rattle.trays.specs.Sides.{is_side}
use Rattle.tray_check.proofs.all_sides.Goals as goal

pub returns : goal.returns
returns c = all_from_yields_List is_side _ _ _ c.all.ensures.ran (YieldsList-from_slice c.args.sides.now cc) (λ x b q k. search (rules, tests))
