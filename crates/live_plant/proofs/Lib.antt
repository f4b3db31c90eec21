pub mod ActionLemmas
pub mod BigIsLive
pub mod CheckpointErrors
pub mod CycleRefusals
pub mod Draws
mod Examples
pub mod FileReads
pub mod LintReads
pub mod Lists
pub mod Names
pub mod NoneRefused
pub mod OneReading
pub mod PlantsOfFiles
mod RefusalLines
pub mod ScheduleErrors
pub mod SoundPlant
pub mod StepLemmas
pub mod TwoFiles
