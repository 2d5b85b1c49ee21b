pub mod Causes
pub mod Memory
pub mod Adapters
