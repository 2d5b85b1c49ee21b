pub mod Release
pub mod Places
