pub mod Sums
pub mod Chains
pub mod OneChain
pub mod WaysBack
pub mod Lines
pub mod Names
pub mod Writable
mod Examples
pub mod KindedRows
