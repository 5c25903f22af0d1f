pub mod Places
pub mod Spellings
pub mod PlacesToWords
pub mod WordsToPlaces
pub mod Carrying
pub mod ReplyLaws
pub mod Spelled
