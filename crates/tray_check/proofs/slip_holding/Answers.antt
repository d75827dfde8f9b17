use Rattle.std.proofs.Common.{◌≡◌, refl, rules, tests}
use Rattle.std.proofs.lemmas.Iterator.{YieldsList-from_slice}
use Rattle.std.proofs.lemmas.Iterator.Search.{position_from_yields_List}
use lib.Dec.{leb}
use Rattle.trays.specs.Told.{place_of}
use Rattle.tray_check.specs.Steps.Checks.{slip_holding}
use Rattle.tray_check.proofs.CheckLoops.{holding_found}
use Rattle.tray_check.proofs.slip_holding.Goals.{After-position}
use Rattle.tray_check.proofs.slip_holding.Goals as goal

found : (c : After-position) → place_of c.position.result ≡ slip_holding 1 c.args.place c.args.ends.now
found c = holding_found c.args.place _ _ (position_from_yields_List (leb c.args.place) _ _ c.position.result c.position.ensures.ran (YieldsList-from_slice c.args.ends.now cc) (λ x b q k. search (rules, tests)))

pub returns-in-Some : goal.returns-in-Some
returns-in-Some c = rw (← found (goal.at.returns-in-Some c).After-position, c.in-Some.is) refl

pub returns-in-None : goal.returns-in-None
returns-in-None c = rw (← found (goal.at.returns-in-None c).After-position, c.in-None.is) refl
