pub mod Cutting
pub mod Fault
pub mod Fields
pub mod Readers
pub mod Text
