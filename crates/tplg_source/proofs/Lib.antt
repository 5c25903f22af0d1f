pub mod Lists
pub mod KindWords
pub mod KeptPlans
mod Utf8
mod Pieces
