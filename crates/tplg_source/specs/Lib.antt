pub mod Carried
pub mod SourceText
pub mod Outcome
