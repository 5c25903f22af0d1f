pub mod Held
pub mod Answers
pub mod Device
pub mod Laid
pub mod Making
pub mod Unchanged
