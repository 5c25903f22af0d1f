pub mod Ranges
pub mod Printable
pub mod HeapNeed
pub mod WidgetWords
pub mod Sound
pub mod GainOf
