use Rattle.sheet_lines.proofs.Lines.{end_blank, end_marked}
use Rattle.sheet_lines.proofs.put_end.Goals as goal
use Rattle.sheet_lines.proofs.put_end.Goals.{then-side-ne-BLANK_SIDE, else-side-ne-BLANK_SIDE}

pub returns : goal.returns
returns c =
    elim c.if-side-ne-BLANK_SIDE.branch [
      | then-side-ne-BLANK_SIDE w ↦
          end_marked _ _ _ w.if-side-ne-BLANK_SIDE.true _ _ w.byte.ensures w.byte-then-side-ne-BLANK_SIDE.ensures
          (rw w.sheet-is at c.byte-2.ensures)
      | else-side-ne-BLANK_SIDE w ↦ let x = rw w.sheet-is at c.byte-2.ensures in search (end_blank, x)
    ]
