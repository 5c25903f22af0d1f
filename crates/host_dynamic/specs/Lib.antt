pub mod Dynamic
pub mod Parts
pub mod UpStates
pub mod UpDevices
pub mod Noting
pub mod Spreading
pub mod UpCalls
