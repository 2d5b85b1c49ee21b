pub mod Findings
pub mod Inspection
pub mod Numbers
pub mod Order
