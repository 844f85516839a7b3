pub mod Blank
pub mod Drawn
pub mod Erasing
pub mod Live
pub mod Putting
pub mod Rows
pub mod Striking
