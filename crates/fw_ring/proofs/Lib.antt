pub mod Flat
pub mod FrameLaws
pub mod ReadFrames
mod ReadRuns
pub mod RingLaws
pub mod RoundLaws
pub mod WindowLaws
