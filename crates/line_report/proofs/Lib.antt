mod Examples
pub mod Lines
pub mod Portions
pub mod SameReports
pub mod Starts
