use Rattle.std.proofs.Common.{rules}
use Rattle.compose_names.proofs.NameLoops.{named_more, named_all}
use Rattle.compose_names.proofs.name_joins.Goals as goal

pub loop-i-preserved : goal.loop-i-preserved
loop-i-preserved c = search (rules, named_more)

pub returns : goal.returns
returns c = search (rules, named_all)
