pub mod FarReads
pub mod FarExchanges
pub mod AgreedLaws
pub mod TracedLaws
