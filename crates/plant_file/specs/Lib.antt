pub mod Code
pub mod Columns
pub mod Complete
pub mod Counts
pub mod Draft
pub mod Finish
pub mod PlantOfFiles
pub mod Reading
