mod Places
pub mod SampleRuns
pub mod NextBytes
mod RoundBytes
mod InputBytes
mod InputPlaces
mod OutputPlaces
pub mod Ascending
pub mod InputLaws
pub mod OutputLaws
pub mod RoomLaws
pub mod Positions
