use Rattle.tray_cut.proofs.CutTray.{write_can, text_fits, text_counted, ends_fit, ends-counted, cut_tray}
use Rattle.shortest_side.proofs.SideSteps.{seek_can, cut_sought}
use Rattle.shortest_side.proofs.seek_cut.Goals as goal

pub write_slips-n-requires : goal.write_slips-n-requires
write_slips-n-requires c = search write_can

pub slice_bounds-text-end : goal.slice_bounds-text-end
slice_bounds-text-end c = search text_fits

pub slice_bounds-cut-end : goal.slice_bounds-cut-end
slice_bounds-cut-end c = search text_counted

pub slice_bounds-bounds-end : goal.slice_bounds-bounds-end
slice_bounds-bounds-end c = search ends_fit

pub slice_bounds-cut-end-2 : goal.slice_bounds-cut-end-2
slice_bounds-cut-end-2 c = search ends-counted

pub invariant_of-cut : goal.invariant_of-cut
invariant_of-cut c = record { accepted = search cut_tray }

pub seek-requires : goal.seek-requires
seek-requires c = search seek_can

pub returns : goal.returns
returns c = search cut_sought
