pub mod CheckLaws
pub mod Handles
pub mod Heap
