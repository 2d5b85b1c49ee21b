pub mod Lines
pub mod Slack
pub mod Reached
