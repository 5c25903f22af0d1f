pub mod ControlAsks
pub mod ControlPlaces
pub mod ControlOrders
pub mod ControlAnswers
