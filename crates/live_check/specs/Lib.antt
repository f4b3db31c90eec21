pub mod Order
pub mod DeadCircuit
pub mod NotLive
pub mod MoreTokens
pub mod Ranking
