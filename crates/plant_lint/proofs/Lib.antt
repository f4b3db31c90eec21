pub mod Columns
pub mod DraftLints
pub mod Examples
pub mod FaultLints
pub mod GatheredNotes
pub mod LineLists
pub mod NoToml
pub mod SoundFiles
mod Searches
mod HeadLines
