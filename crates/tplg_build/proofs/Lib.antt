pub mod Ascending
pub mod FieldSizes
pub mod OfProgram
pub mod RecordSizes
pub mod ArraySizes
pub mod Padded
pub mod SmallLaws
