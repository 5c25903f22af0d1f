pub mod Replaying
pub mod Replays
pub mod ReplayTodo
pub mod GivenRecords
