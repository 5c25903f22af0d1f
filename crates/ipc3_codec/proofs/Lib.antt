pub mod WordList
pub mod Runs
pub mod WordByWord
pub mod FirstFault
pub mod ReplyReading
