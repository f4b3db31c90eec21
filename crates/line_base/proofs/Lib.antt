pub mod SendProofs
pub mod SharedParts
pub mod DecimalLengths
pub mod Numbers
pub mod RangeLists
