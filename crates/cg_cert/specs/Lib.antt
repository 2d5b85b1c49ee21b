pub mod Judged
pub mod Positions
pub mod Statuses
