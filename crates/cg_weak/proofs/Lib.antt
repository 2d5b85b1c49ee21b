pub mod Walk
pub mod RowLists
pub mod Moves
pub mod Newest
pub mod Fields
pub mod Steps
pub mod CallerLemmas
