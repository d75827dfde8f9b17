use mathlib.Core.Path.{◌≡◌}
use mathlib.Core.List.{List}
use Prim.Native.Nat.{ℕ}
use Rattle.trays.specs.Slips.{slips_of}
use Rattle.trays.proofs.Told.{at_tray, of_tray}
use Rattle.tray_index.specs.Steps.Lists.{OwnIndex, span_for}
use Rattle.tray_index.proofs.Asking.{own_index}
use Rattle.tray_index.proofs.beginning_span.Goals as goal

pub slips_starting-requires : goal.slips_starting-requires
slips_starting-requires c =
    let P : List ℕ → List ℕ → Type 0 = λ s es. OwnIndex s es c.args.index.now in
    at_tray P c.args.letters c.args.ends c.in_ok-tray.tray c.in_ok-tray.ensures.tray (own_index _ _ _ _ _ c.in_ok-tray.ensures.fault)

pub returns-clause-span : goal.returns-clause-span
returns-clause-span c =
    let P : List ℕ → List ℕ → Type 0 = λ s es. c.slips_starting.result ≡ span_for (slips_of s es) c.args.typed.now in
    of_tray P c.args.letters c.args.ends c.in_ok-tray.tray c.in_ok-tray.ensures.tray c.slips_starting.ensures
