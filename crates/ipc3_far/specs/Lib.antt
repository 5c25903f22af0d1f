pub mod FarEnds
pub mod FarDevices
pub mod FarCalls
