-- Lemmas on reasons and rows.
pub mod Telling
pub mod Tests
pub mod RowTold
pub mod Rights
pub mod RowHolds
pub mod Refused
