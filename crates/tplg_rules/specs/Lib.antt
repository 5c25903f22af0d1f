pub mod ControlRanges
pub mod RuleTable
pub mod WellFormed
pub mod RuleFaults
pub mod RuleTest
