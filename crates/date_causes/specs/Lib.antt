pub mod Chain
pub mod Walk
pub mod Kinds
pub mod Shares
pub mod WhyText
pub mod Named
pub mod Caused
pub mod Laws
