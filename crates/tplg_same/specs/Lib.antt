pub mod CapsLimits
pub mod SamePlan
pub mod SameTest
