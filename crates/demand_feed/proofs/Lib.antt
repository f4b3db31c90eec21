pub mod Reached
pub mod ReadRecords
pub mod Decimals
pub mod RowLemmas
pub mod Taken
pub mod GoodRows
pub mod JobTimesLemmas
pub mod BadFields
