pub mod Steps
pub mod BrokenFiles
pub mod Statuses
pub mod BindingLaws
pub mod SaidLines
pub mod LoadedBytes
pub mod LinePhases
pub mod AskedFiles
