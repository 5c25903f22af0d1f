pub mod Rules
pub mod FirstFailing
pub mod Cycles
pub mod Echoes
pub mod WalkLaws
pub mod Reach
