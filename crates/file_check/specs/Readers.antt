-- Rules, files and sheets: a reader that remembers the file and how far it has come.
--   refused_line f k == the refusal by what is wrong with line k
--   Handed r r' k l  == the reader r handed out l, the line at which it stood, as line k, and became r', which stands behind that line
use Rattle.std.specs.Prelude.{Err, ◌≡◌, ℕ}
use Rattle.trays.specs.declared.Refusal.{Refusal}
use Rattle.trays.specs.Faults.{refusal}
use Rattle.file_rule.specs.declared.LineFault.{LineFault}
use Rattle.file_rule.specs.declared.Line.{Line}
use Rattle.file_rule.specs.declared.Reader.{Reader}
use Rattle.file_line.specs.Steps.Parsed.{IsLine, fault_number}

abbrev pub refused_line : LineFault → ℕ → Refusal
refused_line f k = refusal (fault_number (Err f)) k

pub record Handed (r r' : Reader) (k : ℕ) (l : Line) : Type 0 where
  pub line-is : IsLine r.file.now r.at k l
  pub file_is : r'.file ≡ r.file
  pub at_is : r'.at ≡ l.next
