pub mod ShownNames
pub mod Labels
pub mod Picture
