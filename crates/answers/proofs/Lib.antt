pub mod CycleTexts
mod Examples
pub mod SinkLines
pub mod Sent
