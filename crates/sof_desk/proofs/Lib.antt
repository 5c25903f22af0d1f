pub mod CountLaws
pub mod First
pub mod FoundAfter
pub mod TiedFiles
pub mod UsesOfNames
pub mod StillUnread
pub mod Pieces
pub mod ActsOfShelf
pub mod CallSteps
mod ToldFiles
