pub mod Numbers
pub mod Overwriting
