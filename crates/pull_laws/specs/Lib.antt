pub mod Recorded
pub mod Resuming
pub mod ResumingRecorded
pub mod Verdicts
