use Rattle.tray_index.proofs.Passing.{pass_none, pass_asks, pass_more, pass_stop, pass_all, other_length}
use Rattle.tray_index.proofs.is_index.Goals as goal

pub returns-then-index-tray : goal.returns-then-index-tray
returns-then-index-tray c = search (other_length, c.if-index-tray.true)

pub loop-i-init : goal.loop-i-init
loop-i-init c = search pass_none

pub entry_fits-requires : goal.entry_fits-requires
entry_fits-requires c = search pass_asks

pub loop-i-preserved : goal.loop-i-preserved
loop-i-preserved c = search pass_more

pub returns-then-not-entry_fits : goal.returns-then-not-entry_fits
returns-then-not-entry_fits c = search pass_stop

pub returns : goal.returns
returns c = search pass_all
