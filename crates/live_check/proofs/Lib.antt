pub mod Counts
pub mod NeverLater
pub mod RankSteps
pub mod Upward
pub mod StuckWalks
pub mod LiveOrder
