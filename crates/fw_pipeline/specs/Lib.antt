pub mod Rows
pub mod Preparing
pub mod Settling
pub mod Triggers
