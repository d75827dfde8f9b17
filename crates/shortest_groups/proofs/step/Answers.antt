use Rattle.std.proofs.Common.{rules}
use Rattle.shortest_groups.proofs.SeekLoop.{seek_marked, seek_first, seek_taken, seek_left}
use Rattle.shortest_groups.proofs.step.Goals as goal

pub returns-then-holds : goal.returns-then-holds
returns-then-holds c = search seek_marked

pub returns-in-Some : goal.returns-in-Some
returns-in-Some c = search (rules, seek_left)

pub returns-in_default : goal.returns-in_default
returns-in_default c = search (rules, seek_taken)

pub returns-in_default-2 : goal.returns-in_default-2
returns-in_default-2 c = search (rules, seek_first)
