pub mod Words
pub mod Latest
pub mod LatestText
pub mod JobLines
pub mod Found
pub mod Laws
pub mod ArcBounds
pub mod Pass
