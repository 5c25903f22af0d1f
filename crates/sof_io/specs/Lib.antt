pub mod Bound
pub mod Takes
pub mod Fills
pub mod Round
pub mod Puts
