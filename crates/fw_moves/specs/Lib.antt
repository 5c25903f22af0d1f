pub mod Moving
pub mod Processed
