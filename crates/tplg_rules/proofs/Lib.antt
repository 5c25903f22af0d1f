pub mod RuleLaws
pub mod Places
pub mod RuleFaults
pub mod FewEdges
pub mod RuleTests
pub mod RuleTellings
