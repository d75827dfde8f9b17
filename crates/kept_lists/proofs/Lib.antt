-- The loops that fill the lists of the kept members.
pub mod KeptMembers
pub mod AffixLoop
pub mod StartLoop
pub mod EndLoop
pub mod Stages
