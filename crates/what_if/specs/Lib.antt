pub mod Marks
pub mod Edited
pub mod Page
pub mod Evaluation
pub mod Sheet
pub mod Settled
pub mod Edits
