pub mod Times
pub mod Roomy
pub mod Shared
pub mod Text
pub mod Limits
