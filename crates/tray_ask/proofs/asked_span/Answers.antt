use Rattle.tray_ask.proofs.Requests.{request_real}
use Rattle.tray_ask.proofs.asked_span.Goals as goal

pub slip_span-requires : goal.slip_span-requires
slip_span-requires c = request_real _ _ _ c.in_ok-check_slip.ensures.fault
