pub mod Walks
pub mod Blocks
pub mod Numbers
pub mod Tallies
pub mod Texts
