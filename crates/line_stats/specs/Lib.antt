pub mod Counts
pub mod Between
pub mod Laws
pub mod DateSums
pub mod PlantDates
