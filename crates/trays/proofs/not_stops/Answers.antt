use Rattle.std.proofs.Common.{◌≡◌, ◌∙◌, sym, ℕ, Bool, not, rules, tests, reverse}
use Rattle.std.specs.List.{list_any}
use Rattle.std.proofs.lemmas.Iterator.Adapters.{YieldsList-from_rev_slice}
use Rattle.std.proofs.lemmas.Iterator.Search.{any_from_yields_List}
use Rattle.std.proofs.lemmas.List.Sorted.{IsPermutation-reverse, list_any-IsPermutation}
use lib.Dec.{eqb}
use Rattle.words.proofs.Tests.{any-is}
use Rattle.trays.specs.Slips.{stop}
use Rattle.trays.proofs.not_stops.Goals as goal

pub returns : goal.returns
returns c =
    let test : ℕ → Bool = λ b. not (eqb b stop) in
    let xs = c.args.x.now in
    any_from_yields_List test _ _ _ c.any.ensures.ran (YieldsList-from_rev_slice xs cc) (λ x b q k. search (rules, tests))
    ∙ (sym (list_any-IsPermutation test xs (reverse xs) (IsPermutation-reverse xs)) ∙ any-is test xs)
