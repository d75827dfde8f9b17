-- Laws.
pub mod Keeping
pub mod MemberNodes
pub mod Threading
pub mod HeadLoop
