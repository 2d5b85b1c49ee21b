pub mod Lists
pub mod CommandLaws
pub mod Serials
pub mod Moves
pub mod Inspecting
pub mod Shapes
pub mod Representing
pub mod Places
