pub mod Counts
pub mod Places
pub mod Visits
pub mod Walks
