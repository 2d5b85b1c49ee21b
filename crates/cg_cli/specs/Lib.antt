pub mod Statuses
pub mod Summaries
pub mod Expansions
pub mod Recordings
pub mod Jobs
