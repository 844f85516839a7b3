pub mod Looks
pub mod Parts
