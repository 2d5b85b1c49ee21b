pub mod Orderly
pub mod Represents
