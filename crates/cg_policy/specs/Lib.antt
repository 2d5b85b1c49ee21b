pub mod Policy
pub mod Flagset
pub mod Laws
