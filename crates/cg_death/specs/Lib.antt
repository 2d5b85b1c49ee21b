pub mod Activities
pub mod Answers
pub mod Falls
pub mod Deaths
pub mod Steady
pub mod Turns
