-- trie_heads
pub mod Steps
