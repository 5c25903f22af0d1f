pub mod ByteLaws
pub mod Cases
