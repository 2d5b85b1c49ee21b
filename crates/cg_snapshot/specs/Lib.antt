pub mod Lines
pub mod Meant
pub mod Members
pub mod Reading
pub mod Rows
pub mod Text
