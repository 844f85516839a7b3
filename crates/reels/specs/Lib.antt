pub mod Reels
pub mod ReelLaws
