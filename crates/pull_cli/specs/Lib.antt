pub mod Ended
pub mod Ends
pub mod Files
pub mod RunReports
pub mod StopsAndResumes
pub mod StopsWhereAsked
pub mod Verdict
