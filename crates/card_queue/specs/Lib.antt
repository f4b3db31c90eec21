pub mod Ring
pub mod Put
pub mod Take
pub mod Queue
pub mod Plain
