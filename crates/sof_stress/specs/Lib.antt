pub mod Draws
pub mod StressGraph
pub mod GraphParts
pub mod StressPorts
pub mod CommandTurns
pub mod CarriedTurns
pub mod StressRun
pub mod DeviceStress
