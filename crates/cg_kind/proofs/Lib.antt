pub mod BodyLemmas
pub mod KeyLemmas
pub mod References
