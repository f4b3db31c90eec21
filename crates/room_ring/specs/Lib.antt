pub mod View
pub mod Rule
pub mod Plays
pub mod Seated
pub mod Ring
pub mod Put
pub mod Take
pub mod Ends
