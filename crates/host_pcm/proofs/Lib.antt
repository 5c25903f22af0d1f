pub mod Places
pub mod StreamCalls
pub mod AtRest
pub mod AnsweredCalls
pub mod HostTests
pub mod AsksCarried
pub mod OrdersTaken
