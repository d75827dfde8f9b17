use Rattle.tray_ask.proofs.Requests.{sides_same}
use Rattle.tray_ask.proofs.same_side.Goals as goal

pub returns : goal.returns
returns c = search sides_same
