pub mod ElementLoops
pub mod ArrayLoops
