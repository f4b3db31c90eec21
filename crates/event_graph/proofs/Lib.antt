mod Examples
pub mod Ranges
pub mod ArcNumbers
pub mod Mapped
pub mod Places
pub mod Greatest
pub mod ArcTerms
pub mod GreatestTerms
pub mod Sizes
pub mod Walks
pub mod LeftSteps
