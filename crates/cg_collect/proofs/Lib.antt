pub mod PlacesOfObjects
pub mod Moving
pub mod Uncollectable
pub mod AsideBackward
pub mod Garbage
pub mod WorkLeft
pub mod Untracked
pub mod Worlds
pub mod NothingIsMade
pub mod TakingTurns
pub mod FinalizerPhase
pub mod ClearingTurns
pub mod SavedObjects
pub mod Merging
pub mod Looks
pub mod StartLooks
pub mod StartLines
pub mod RowFilters
pub mod FinalRows
pub mod Stopping
pub mod Detecting
pub mod Unlinking
pub mod PlacesInStart
pub mod Sorts
pub mod Pending
pub mod UnreachablePlaces
pub mod CollectionStarts
pub mod RowWalks
pub mod Walking
pub mod ClearingWeakReferences
pub mod WalkTurns
pub mod WalkLooks
pub mod Stages
pub mod GivingUp
pub mod StepsOfPhases
mod BoundedLooks
mod MeetingStages
mod Unreferred
