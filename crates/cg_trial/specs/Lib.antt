pub mod View
pub mod Paths
pub mod Sift
pub mod Split
pub mod Worlds
