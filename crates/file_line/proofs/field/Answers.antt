use Rattle.file_line.proofs.Fields.{field_none, field-digits}
use Rattle.file_line.proofs.field.Goals as goal
use Rattle.file_line.proofs.field.Goals.{else-digits-gt1-via-then-digits-gt1+else-digits-eq48, else-digits-gt1-via-else-digits-gt1}

pub returns-in_err-start : goal.returns-in_err-start
returns-in_err-start c = rw c.from_residual.ensures (field_none c.args.columns.now c.in_err-start.ensures)

pub returns : goal.returns
returns c =
    elim c.else-digits-gt1.branch [
      | else-digits-gt1-via-then-digits-gt1+else-digits-eq48 w ↦
          field-digits c.args.columns.now c.in_ok-start.start c.in_ok-start.ensures _ (λ z. absurd (w.if-digits-eq48.false z)) c.number.ensures
      | else-digits-gt1-via-else-digits-gt1 w ↦
          field-digits c.args.columns.now c.in_ok-start.start c.in_ok-start.ensures _ (λ z. w.if-digits-gt1.false) c.number.ensures
    ]
