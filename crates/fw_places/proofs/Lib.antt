-- Lemmas on places, marks and walks.
pub mod Marking
pub mod Reaching
pub mod Charts
pub mod EchoLaws
pub mod Leaves
pub mod WayMarks
pub mod WayWalks
