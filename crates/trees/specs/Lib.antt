pub mod Settings
pub mod Geometry
pub mod Refusal
pub mod Paths
pub mod Laws
pub mod Examples
