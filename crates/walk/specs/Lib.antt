-- The walk over the tables of the automaton: its lists of slips, its lists of marks, and what its functions ask and leave.
pub mod Steps
