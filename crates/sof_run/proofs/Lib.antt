pub mod Throughout
mod RecordEntries
mod PutBytes
mod RightDeeds
mod RightRuns
mod TracedViews
pub mod OnePlay
pub mod TraceFiles
pub mod ScriptReads
pub mod Findings
pub mod Judging
pub mod Courses
pub mod Finish
pub mod StressPhases
pub mod StressVerdicts
pub mod Asked
pub mod Replayed
