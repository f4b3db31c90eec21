mod Examples
pub mod TwoStage
pub mod NoRefusals
pub mod Passes
pub mod Soundness
pub mod Paths
pub mod PathTables
pub mod SoundPlants
pub mod PlainSound
pub mod LayoutStations
pub mod LayoutArcs
pub mod LayoutPaths
pub mod LayoutFacts
pub mod RowLists
