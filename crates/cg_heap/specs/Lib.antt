pub mod Boxes
pub mod Codes
pub mod Weak
pub mod Keeps
pub mod Calls
pub mod Names
