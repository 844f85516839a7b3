pub mod Bytes
pub mod Done
pub mod Groups
pub mod History
pub mod Laws
pub mod Refusal
