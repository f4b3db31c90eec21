pub mod Answers
pub mod Dated
pub mod FirstEnd
pub mod EndsAsAsked
pub mod Reports
pub mod Saving
