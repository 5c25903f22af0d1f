mod FrameBytes
mod OneBuffer
mod Parts
mod DistinctEdges
mod EdgePlaces
mod TurnsSeen
mod KeptEnds
pub mod Running
mod ShownEnds
mod NoFrames
mod NextFrames
mod Moved
mod ByKind
pub mod Still
mod Stages
mod Along
mod Fed
pub mod Growing
mod Drained
mod Least
mod Processed
mod AtPlaces
mod InletRooms
mod StepLaws
mod Looking
pub mod InOrder
mod Rising
mod InTurn
pub mod ScheduleLaws
