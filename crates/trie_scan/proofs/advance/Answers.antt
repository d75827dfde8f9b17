use Rattle.trie_scan.proofs.Scans.{reaching_unread}
use Rattle.trie_scan.proofs.advance.Goals as goal

pub read_letter-y-requires : goal.read_letter-y-requires
read_letter-y-requires c = search reaching_unread
