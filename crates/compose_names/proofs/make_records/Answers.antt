use Rattle.std.proofs.Common.{rules}
use Rattle.compose_names.proofs.NameLoops.{made_more, made_all}
use Rattle.compose_names.proofs.make_records.Goals as goal

pub loop-i-preserved : goal.loop-i-preserved
loop-i-preserved c = search (rules, made_more)

pub returns : goal.returns
returns c = search (rules, made_all)
