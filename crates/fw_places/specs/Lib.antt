pub mod Walks
pub mod Charts
pub mod Leaving
pub mod WayCharts
