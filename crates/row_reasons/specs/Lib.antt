-- Why messages are refused.
pub mod Errors
pub mod Firsts
pub mod Reasons
pub mod Carried
pub mod Holding
pub mod ReasonLaws
pub mod Worked
pub mod Refusals
