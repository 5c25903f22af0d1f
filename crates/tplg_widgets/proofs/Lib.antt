pub mod FirstValues
pub mod Texts
pub mod Positions
pub mod FoundEnds
pub mod Indexed
pub mod ListLengths
pub mod FileCounts
