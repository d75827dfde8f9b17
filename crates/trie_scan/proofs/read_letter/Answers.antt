use Rattle.trie_scan.proofs.Scans.{unread_read}
use Rattle.trie_scan.proofs.read_letter.Goals as goal

pub returns : goal.returns
returns c = search unread_read
