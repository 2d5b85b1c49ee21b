mod KeyLemmas
mod FirstRefusal
mod Reading
pub mod ChangesOfHeaps
mod BindingLemmas
mod Steps
mod QueryLemmas
mod Inspecting
pub mod WhyLemmas
mod LookupLemmas
pub mod Limits
mod EntryLemmas
mod PutLemmas
mod TextLemmas
mod PartLemmas
mod NewObjects
mod MakeLemmas
pub mod GrowthOfHeaps
mod Replacing
mod PlaceSizes
mod Counting
mod CollectorCommands
