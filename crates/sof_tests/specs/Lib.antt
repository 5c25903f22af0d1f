-- Worked rows of the written run.
pub mod Rows
pub mod TraceRows
pub mod CheckRows
pub mod LawRows
