-- trie_scan
pub mod Steps
