pub mod WidgetForm
pub mod PcmForm
pub mod TopologyForm
pub mod Payloads
pub mod SmallSource
