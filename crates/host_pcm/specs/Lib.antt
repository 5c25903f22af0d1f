pub mod StreamRanges
pub mod Asks
pub mod StreamOrders
pub mod StreamCalls
