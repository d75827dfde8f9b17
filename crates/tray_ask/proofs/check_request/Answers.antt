use mathlib.Core.Logic.{inl, inr}
use Rattle.tray_ask.proofs.Requests.{request_bad, request_good}
use Rattle.tray_ask.proofs.check_request.Goals.{then-slip-eq0-via-then-slip-eq0, then-slip-eq0-via-else-slip-eq0+then-ends-slip}
use Rattle.tray_ask.proofs.check_request.Goals as goal

pub returns-then-slip-eq0 : goal.returns-then-slip-eq0
returns-then-slip-eq0 c =
    request_bad c.args.ends.now c.args.slip
    (elim c.then-slip-eq0.branch [
      | then-slip-eq0-via-then-slip-eq0 w ↦ inl w.if-slip-eq0.true
      | then-slip-eq0-via-else-slip-eq0+then-ends-slip w ↦ inr (w.if-slip-eq0.false, w.if-ends-slip.true)
    ])

pub returns : goal.returns
returns c = search request_good
