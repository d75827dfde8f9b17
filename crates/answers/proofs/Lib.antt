-- Laws.
pub mod AllComposed
pub mod AllFound
pub mod AllSought
pub mod BeforeC
pub mod FlatLists
