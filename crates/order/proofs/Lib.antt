pub mod Drawing
pub mod Rank
