pub mod Alone
pub mod Filled
pub mod Mixing
