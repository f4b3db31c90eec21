pub mod Laws
pub mod MoreCards
pub mod DeadLabels
pub mod Turned
pub mod Labels
