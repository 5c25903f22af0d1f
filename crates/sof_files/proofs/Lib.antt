pub mod KnownTransfers
pub mod OpenSlots
pub mod OutFileLaws
pub mod InFileLaws
pub mod UsedFiles
pub mod ActsOfReal
pub mod LoadsOfReal
