pub mod Blocks
pub mod BlocksLaws
pub mod Drawing
