pub mod Weight
pub mod Certificate
pub mod Dates
pub mod CycleTime
pub mod Ratio
pub mod Search
