pub mod Geometry
pub mod Nodes
pub mod Lists
pub mod Cells
pub mod Coefficients
pub mod Laws
