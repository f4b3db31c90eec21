pub mod Sized
pub mod Serving
pub mod Laws
pub mod Trying
pub mod Sizing
pub mod Lowered
pub mod Counted
pub mod Each
