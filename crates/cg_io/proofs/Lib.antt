pub mod Fronts
pub mod Copies
