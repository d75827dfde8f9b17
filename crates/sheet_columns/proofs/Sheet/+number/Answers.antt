use Rattle.std.proofs.Common.{arith, ◌≡◌, ◌∙◌, ◌%◌}
use Rattle.sheet_columns.proofs.Numbers.{number_small, number_more}
use Rattle.sheet_columns.proofs.Sheet.+number.Goals as goal
use Rattle.sheet_columns.proofs.Sheet.+number.Goals.{then-n-lt10, else-n-lt10}

pub returns : goal.returns
returns t c =
    elim c.if-n-lt10.branch [
      | then-n-lt10 w ↦
          let one : c.args.n % 10 ≡ c.args.n = omega arith in
          let d = rw one at c.digit.ensures in
          let x = rw (← w.self-is) at w.blanks.ensures in
          record { wrote = search (number_small, d, x.wrote); same_buffer = c.byte.ensures.same_buffer ∙ x.same_buffer }
      | else-n-lt10 w ↦
          let x = rw (← w.self-is) at w.number.ensures in
          record { wrote = search (number_more, x.wrote); same_buffer = c.byte.ensures.same_buffer ∙ x.same_buffer }
    ]
