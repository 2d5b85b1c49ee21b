pub mod Generated
pub mod Tallies
pub mod Counting
