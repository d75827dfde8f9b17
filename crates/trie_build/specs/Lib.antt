-- trie_build
pub mod Steps
