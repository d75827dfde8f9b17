use Rattle.compose_names.proofs.Rows.{three_put}
use Rattle.compose_names.proofs.put_three.Goals as goal

pub returns : goal.returns
returns c = search three_put
