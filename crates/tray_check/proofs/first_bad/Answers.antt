use Rattle.std.proofs.Common.{ℕ, Bool, not, rules, tests}
use Rattle.std.proofs.lemmas.Iterator.{YieldsList-from_slice}
use Rattle.std.proofs.lemmas.Iterator.Search.{position_from_yields_List}
use Rattle.trays.specs.Slips.{is_letter}
use Rattle.tray_check.proofs.CheckLoops.{bad_found}
use Rattle.tray_check.proofs.first_bad.Goals as goal

pub returns : goal.returns
returns c =
    let test : ℕ → Bool = λ b. not (is_letter b) in
    bad_found _ c.args.s.now (position_from_yields_List test _ _ c.position.result c.position.ensures.ran (YieldsList-from_slice c.args.s.now cc) (λ x b q k. search (rules, tests)))
