pub mod PlanLists
pub mod TopologyNeed
pub mod PlanOf
pub mod Orderable
