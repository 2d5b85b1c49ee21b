pub mod Nodes
pub mod Slots
pub mod Links
pub mod Table
pub mod Index
