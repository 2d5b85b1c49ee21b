pub mod Ascending
pub mod NamesAndPositions
pub mod CountsOfMembers
pub mod Judging
pub mod Sets
pub mod GraphsByPositions
pub mod Verdicts
pub mod CheckFacts
