pub mod Archive
pub mod Examples
pub mod History
pub mod Promise
pub mod Refusal
pub mod Rules
