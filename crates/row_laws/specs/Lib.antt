pub mod Tiled
pub mod Wired
pub mod Played
pub mod Kept
pub mod RowLaws
