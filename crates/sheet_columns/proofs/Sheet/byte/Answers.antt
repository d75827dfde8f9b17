use Rattle.std.proofs.Common.{rules}
use Rattle.sheet_columns.proofs.Puts.{put_byte}
use Rattle.sheet_columns.proofs.Sheet.byte.Goals as goal

pub returns : goal.returns
returns c = record { wrote = search put_byte; same_buffer = search rules }
