pub mod Exits
pub mod Expansion
pub mod Words
pub mod Maps
pub mod MapLines
pub mod Worked
pub mod WorkedExits
pub mod ExpandedExits
