pub mod Cells
pub mod Done
pub mod Laws
pub mod Refusal
pub mod Writes
