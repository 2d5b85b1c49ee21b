pub mod Counts
pub mod WithinRelease
pub mod WaitingDeaths
pub mod Deaths
pub mod FreesWhatDies
pub mod ObjectPlaces
