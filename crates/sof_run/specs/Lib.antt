-- What is promised, from the words on; `Run.RunContract` is all of it.
pub mod Stressing
pub mod Calls
pub mod Ends
pub mod Findings
pub mod Stresses
pub mod PlayVerdict
pub mod Run
pub mod PlayLaws
pub mod ComeTo
pub mod StressTodo
pub mod Forms
