pub mod Drafts
pub mod Refusal
pub mod Wishes
pub mod Machine
