use Rattle.sheet_of_text.proofs.Trims.{trim_empty, trim_ended, trim_open}
use Rattle.sheet_of_text.proofs.text_length.Goals as goal

pub returns-then-n-eq0 : goal.returns-then-n-eq0
returns-then-n-eq0 c = trim_empty _ c.if-n-eq0.true

pub returns-then-text-last-eq-LF : goal.returns-then-text-last-eq-LF
returns-then-text-last-eq-LF c = trim_ended _ c.if-n-eq0.false c.if-text-last-eq-LF.true

pub returns : goal.returns
returns c = trim_open _ c.if-n-eq0.false c.if-text-last-eq-LF.false
