pub mod CollectedRefusals
pub mod Examples
pub mod PassedElements
pub mod RangeLemmas
pub mod RefusedTests
