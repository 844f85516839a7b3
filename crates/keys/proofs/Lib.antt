pub mod Codes
pub mod Digests
pub mod Folds
pub mod Sheets
pub mod TextEnds
