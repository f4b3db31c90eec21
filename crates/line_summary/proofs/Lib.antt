mod Examples
mod CurveExamples
pub mod OverTime
pub mod Ratios
pub mod TableSums
pub mod PartSums
pub mod Longest
pub mod WaitLists
pub mod BusyTimes
pub mod Stays
pub mod Backlogs
pub mod Read
pub mod MachineLists
pub mod PutRows
pub mod GivenPoints
pub mod SamePoints
pub mod PrefixRows
