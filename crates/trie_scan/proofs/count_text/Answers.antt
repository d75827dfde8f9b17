use Rattle.trie_scan.proofs.CountLoop.{counting_start, counting_drop, counting_moves}
use Rattle.trie_scan.proofs.CountLoop.{counting_found, counting_more}
use Rattle.trie_scan.proofs.count_text.Goals as goal

pub loop-c-init : goal.loop-c-init
loop-c-init c = search counting_start

pub overflow_add-moves : goal.overflow_add-moves
overflow_add-moves c = search counting_drop

pub overflow_add-moves-in-loop-c : goal.overflow_add-moves-in-loop-c
overflow_add-moves-in-loop-c c = search counting_moves

pub overflow_add-found : goal.overflow_add-found
overflow_add-found c = search counting_found

pub loop-c-preserved : goal.loop-c-preserved
loop-c-preserved c = search counting_more
