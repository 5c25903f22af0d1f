pub mod Changes
pub mod Frames
pub mod Units
pub mod Values
