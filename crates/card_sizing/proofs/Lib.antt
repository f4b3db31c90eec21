pub mod SizedStages
pub mod SizedSound
pub mod ReachedDates
pub mod EnoughCards
pub mod DeadLines
pub mod Searches
pub mod CountedPlants
pub mod StageSearches
pub mod LoweredOnce
pub mod Refusals
pub mod CoveredCards
pub mod HighestCounts
pub mod Most
mod Examples
