pub mod Lines
pub mod Lists
pub mod Members
pub mod Number
pub mod Reading
pub mod RecordLines
pub mod Text
