use Rattle.trie_scan.proofs.Scans.{reportable_room, reportable_fits, reportable_twin, reportable_behind}
use Rattle.trie_scan.proofs.pass.Goals as goal

pub at-twin-requires : goal.at-twin-requires
at-twin-requires c = search reportable_room

pub overflow_add-result : goal.overflow_add-result
overflow_add-result c = search reportable_fits

pub returns-then-twin-ne0 : goal.returns-then-twin-ne0
returns-then-twin-ne0 c = search reportable_twin

pub overflow_add-result-2 : goal.overflow_add-result-2
overflow_add-result-2 c = search reportable_fits

pub returns : goal.returns
returns c = search reportable_behind
