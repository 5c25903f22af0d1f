pub mod Asked
pub mod HandedOn
pub mod Driven
pub mod Status
