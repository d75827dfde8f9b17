use Rattle.trie_children.proofs.Children.{scan_lettered, scan_hit, scan_past, scan_more, scan_none}
use Rattle.trie_children.proofs.scan_child.Goals as goal

pub letter-b-requires : goal.letter-b-requires
letter-b-requires c = search scan_lettered

pub returns-then-b-c : goal.returns-then-b-c
returns-then-b-c c = search scan_hit

pub returns-then-c-b : goal.returns-then-c-b
returns-then-c-b c = search scan_past

pub loop-u-preserved : goal.loop-u-preserved
loop-u-preserved c = search scan_more

pub returns : goal.returns
returns c = search scan_none
