pub mod Turns
pub mod TurnsCome
pub mod GoingDown
pub mod ParamsAgain
pub mod PreparesTaken
pub mod PowerOrders
pub mod Loops
pub mod ScratchTaken
