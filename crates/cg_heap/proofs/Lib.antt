mod BoxLemmas
pub mod ReferenceLemmas
pub mod CallerLemmas
pub mod HoldLemmas
pub mod RowLemmas
mod HeapIsStore
mod Room
mod RowsAndHolds
mod Rewrites
mod TakenEntries
mod Puts
mod Moves
mod CountAll
mod Makes
mod NameLemmas
mod NewHeap
mod Calls
mod CallsOnSeats
mod PutCalls
mod WeakCalls
mod MakeCalls
mod TrackedDictionaries
mod Saves
