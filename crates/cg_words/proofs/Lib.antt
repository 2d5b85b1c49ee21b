pub mod Numbers
pub mod Jobs
