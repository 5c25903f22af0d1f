-- What a tick over the registry asks and leaves.
pub mod Units
pub mod Outputs
pub mod Ticks
pub mod Stages
pub mod Schedules
