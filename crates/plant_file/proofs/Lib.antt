pub mod Built
pub mod ColumnLists
pub mod ColumnUses
mod FinishAnswers
pub mod Later
mod LeftOut
pub mod MarkSteps
pub mod NoFaults
pub mod PlantParts
pub mod PlantSteps
pub mod SoundDrafts
pub mod SoundNames
pub mod SoundParts
pub mod TreeFlow
pub mod Trees
