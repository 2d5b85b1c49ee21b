pub mod CutBytes
pub mod MeaningOfLines
pub mod Machine
pub mod Numbers
pub mod Read
pub mod DistinctRows
pub mod Sound
pub mod Spelled
