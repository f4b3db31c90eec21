pub mod Ended
pub mod CommandAnswers
pub mod FileLemmas
pub mod HeadlineLemmas
pub mod CommandSteps
pub mod ResumeLemmas
pub mod WriteStatus
