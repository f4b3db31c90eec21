pub mod Views
pub mod Steps
pub mod Moves
pub mod Ends
mod Examples
