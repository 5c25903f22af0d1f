mod Apart
mod Begun
mod EchoGraph
mod EchoReach
mod EchoWays
mod Going
mod GoneKept
mod HeldRamps
pub mod HostWays
mod Joining
mod KeptLaws
mod Linkable
mod Linked
pub mod Listed
mod PartKept
mod ProcessLaws
mod SeenFrames
mod SeenLaws
mod SeenMoves
pub mod StagedUnder
mod Started
mod TallyKept
pub mod Tallying
mod Told
mod ValuedKept
