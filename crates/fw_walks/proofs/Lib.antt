-- Lemmas on streams and marks, and on what ids name.
pub mod OnWays
pub mod HostMarks
pub mod Naming
pub mod Counted
