-- trie_outputs
pub mod Steps
