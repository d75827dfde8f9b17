-- The facts under a pattern are listed: a search reads no field that is a function.
use mathlib.Core.Path.{sym}
use Rattle.file_line.proofs.LineRows.{line_short, line_open, line_side, line-number, line-length, line_good}
use Rattle.file_line.proofs.check_line.Goals as goal
use Rattle.file_line.proofs.check_line.Goals.{then-n-lt10-via-then-n-lt10, then-n-lt10-via-else-n-lt10+then-line-n-ne-LF}
use Rattle.file_line.proofs.check_line.Goals.{then-n-lt10-via-else-n-lt10+else-line-n-ne-LF+then-not-is_side}

pub returns-then-n-lt10 : goal.returns-then-n-lt10
returns-then-n-lt10 c =
    elim c.then-n-lt10.branch [
      | then-n-lt10-via-then-n-lt10 w ↦ line_short c.args.line.now c.args.k w.if-n-lt10.true
      | then-n-lt10-via-else-n-lt10+then-line-n-ne-LF w ↦ line_open c.args.line.now c.args.k w.if-n-lt10.false w.if-line-n-ne-LF.true
      | then-n-lt10-via-else-n-lt10+else-line-n-ne-LF+then-not-is_side w ↦ line_side c.args.line.now c.args.k (sym w.if-not-is_side.ensures)
    ]

pub returns-then-slip-k : goal.returns-then-slip-k
returns-then-slip-k c = search (line-number, c.in-Some-Some.ensures, c.in-Some-Some.ensures', sym c.if-not-is_side.ensures)

pub returns-then-stated-n : goal.returns-then-stated-n
returns-then-stated-n c = search (line-length, c.in-Some-Some.ensures, c.in-Some-Some.ensures', sym c.if-not-is_side.ensures)

pub returns : goal.returns
returns c = search (line_good, c.in-Some-Some.ensures, c.in-Some-Some.ensures', sym c.if-not-is_side.ensures)
