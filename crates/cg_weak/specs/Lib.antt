pub mod WeakRows
pub mod Nodes
pub mod Chains
pub mod Table
