pub mod RowNumbers
pub mod Lines
pub mod StageLines
pub mod CardArcs
pub mod Bounds
pub mod ArcPlaces
pub mod Listings
