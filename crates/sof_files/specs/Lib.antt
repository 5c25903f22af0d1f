pub mod UsedFiles
pub mod Streams
pub mod OutFiles
pub mod InFiles
pub mod Asides
pub mod RealDesk
pub mod Transfers
pub mod Troubles
