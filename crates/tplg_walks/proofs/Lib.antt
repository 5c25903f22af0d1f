pub mod Among
pub mod Reached
pub mod Leading
pub mod Marks
pub mod Turned
