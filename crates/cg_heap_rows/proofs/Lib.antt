pub mod Tables
pub mod Found
pub mod Dying
pub mod Sets
pub mod Told
pub mod Ways
pub mod Answered
