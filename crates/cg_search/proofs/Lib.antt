pub mod Counting
pub mod Edges
pub mod Places
pub mod Trails
pub mod Visited
pub mod Walking
