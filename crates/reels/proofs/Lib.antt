pub mod Finding
pub mod Cells
