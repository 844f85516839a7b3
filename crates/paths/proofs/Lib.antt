pub mod Descents
pub mod Fronts
pub mod Making
pub mod Values
