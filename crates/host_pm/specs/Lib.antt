pub mod PowerTests
pub mod InTurn
pub mod Resumed
pub mod FromScratch
