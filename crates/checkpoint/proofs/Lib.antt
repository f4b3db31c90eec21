mod Examples
pub mod WrittenTexts
pub mod KeptWords
pub mod FilledTexts
pub mod WordBytes
pub mod ShortNumbers
pub mod ReadDates
pub mod Unique
pub mod ReadLines
pub mod Noted
pub mod ReadTokens
pub mod ReadParts
pub mod OneState
pub mod WordLengths
pub mod Lengths
