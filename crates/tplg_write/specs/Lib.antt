pub mod Sinks
pub mod Sizes
