pub mod Led
pub mod Rooms
pub mod Steps
pub mod FateLaws
pub mod ManyTicks
pub mod LinkCalls
pub mod PartRows
