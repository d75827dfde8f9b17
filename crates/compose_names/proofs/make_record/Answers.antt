use Rattle.compose_names.proofs.Rows.{record_made}
use Rattle.compose_names.proofs.make_record.Goals as goal

pub returns : goal.returns
returns c = search record_made
