-- Each turn tells one occurrence more, and stores its record behind those that stand.
use Rattle.std.proofs.Common.{◌<◌, length, arith}
use Rattle.store_loops.proofs.Firsts.{stored_set}
use Rattle.find_core.specs.Steps.Searching.{found_at}
use Rattle.find_core.proofs.Telling.{telling_more}
use Rattle.find_slips.proofs.scan_found.Goals as goal

pub loop-i-preserved : goal.loop-i-preserved
loop-i-preserved c =
    let h : c.loop-i.i < length c.args.found.now = omega (arith, c.requires.0) in
    record {
      upto = omega arith;
      telling = telling_more c.loop-i-test.true c.loop-i.invariant.telling c.next_found.ensures;
      found_are =
          rw (c.loop-i.invariant.found_are, c.next_found.ensures.is)
          (stored_set (found_at c.args.tray.letters.now c.args.tray.ends.now c.args.text.now) c.args.found.now c.loop-i.i h);
    }
